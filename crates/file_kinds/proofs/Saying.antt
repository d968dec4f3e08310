-- How the answers read: each case (`first_says`, `head_says`, `entry_says`), and that no two answers read alike (`first_says_injective`,
-- `head_says_injective`, `entry_says_injective`), so that the reading determines the answer (`first_is`, `head_is`, `entry_is`). Lines of each kind,
-- with 01's numbers: `first_said`, `head_said`, `entry_said`.
use Prim.Native.Nat.{ℕ}
use mathlib.Core.Path.{◌≡◌, refl, sym, ap}
use mathlib.Core.List.{List, [], ◌∷◌}
use mathlib.Core.Option.{some, none}
use mathlib.Core.Bool.{Bool, true, false}
use native.Mathlib.Omega.{arith}
use lib.IntN.{ℤ, pos, neg_ℤ}
use lib.ListN.{replicate}
use Rattle.basics.proofs.Clash.{clash}
use Rattle.refusals.specs.Answers.{Answer, number}
use Rattle.refusals.specs.declared.Refusal.{Refusal}
use Rattle.refusals.proofs.Answering.{number_injective, number_pos}
use Rattle.table.specs.declared.Gauge.{Gauge}
use Rattle.table.specs.declared.Case.{Case}
use Rattle.recorded.specs.declared.Kind.{Kind}
use Rattle.recorded.specs.declared.Kind.TheVariants.{Pattern, Integer}
use Rattle.file_text.specs.Bytes.{small}
use Rattle.file_text.specs.Fields.{scan}
use Rattle.file_entries.specs.Values.{number_from, is_minus, unsigned}
use Rattle.file_entries.specs.Words.{words}
use Rattle.file_kinds.specs.Banner.{first_line, first_line_says, banner, banner_of}
use Rattle.file_kinds.specs.Kinds.{head_line, head_line_says, fields_by, entry_of, entry_line, entry_line_says}
use Rattle.file_kinds.specs.Banner.{FirstLine}
use Rattle.std.specs.Prelude.{Some as Banner, None as Other}
use Rattle.file_kinds.specs.declared.HeadLine.{HeadLine}
use Rattle.file_kinds.specs.declared.HeadLine.TheVariants.{Size, Skip as skip_head, Bad as bad_head}
use Rattle.file_kinds.specs.declared.EntryLine.{EntryLine}
use Rattle.file_kinds.specs.declared.EntryLine.TheVariants.{Entry, Skip as skip_entry, Bad as bad_entry}

-- an answer with a number and values
abbrev says : {A : Type 0} → ℕ → A → Answer A
says n v = record { refusal = n; value = v }

-- ---- each case
pub first_says : (kind : Kind) → (first_line_says (Banner kind) ≡ says 0 (some kind)) × (first_line_says Other ≡ says 2 none)
first_says kind = (refl, refl)

pub head_says : (g : Gauge) (c : Case) (n : ℕ) (why : Refusal)
    → (head_line_says skip_head ≡ says 0 []) × (head_line_says (Size g c n) ≡ says 0 (g.0 ∷ c.0 ∷ n ∷ [])) × (head_line_says (bad_head why) ≡ says (number why) [])
head_says g c n why = (refl, refl, refl)

pub entry_says : (g : Gauge) (c : Case) (v : ℤ) (why : Refusal)
    → (entry_line_says skip_entry ≡ says 0 [])
    × (entry_line_says (Entry g c v) ≡ says 0 (pos g.0 ∷ pos c.0 ∷ v ∷ []))
    × (entry_line_says (bad_entry why) ≡ says (number why) [])
entry_says g c v why = (refl, refl, refl)

-- ---- lines of each kind
-- the banner of a file of pairs, and one byte less; the integer banner, asked for and not
pub first_said : (first_line_says (first_line false banner) ≡ says 0 (some Pattern))
    × (first_line_says (first_line false []) ≡ says 2 none)
    × (first_line_says (first_line true (banner_of Integer)) ≡ says 0 (some Integer))
    × (first_line_says (first_line false (banner_of Integer)) ≡ says 2 none)
unfolding small
first_said = (refl, refl, refl, refl)

-- `%`; `64 2 3`; 1,025 times `%`; `2 3`; `65 1 0`
pub head_said : (head_line_says (head_line (37 ∷ [])) ≡ says 0 [])
    × (head_line_says (head_line (54 ∷ 52 ∷ 32 ∷ 50 ∷ 32 ∷ 51 ∷ [])) ≡ says 0 (64 ∷ 2 ∷ 3 ∷ []))
    × (head_line_says (head_line (replicate 1025 37)) ≡ says 3 [])
    × (head_line_says (head_line (50 ∷ 32 ∷ 51 ∷ [])) ≡ says 4 [])
    × (head_line_says (head_line (54 ∷ 53 ∷ 32 ∷ 49 ∷ 32 ∷ 48 ∷ [])) ≡ says 5 [])
unfolding scan
head_said = (refl, refl, refl, refl, refl)

-- in a file of 2 gauges and 3 cases: a tab; `2 3`, and `2 3 -7`; `%`; `0 1`; `1 1 1000001`
pub entry_said : (entry_line_says (entry_line Pattern (record { 0 = 2 }) (record { 0 = 3 }) (9 ∷ [])) ≡ says 0 [])
    × (entry_line_says (entry_line Pattern (record { 0 = 2 }) (record { 0 = 3 }) (50 ∷ 32 ∷ 51 ∷ [])) ≡ says 0 (pos 2 ∷ pos 3 ∷ pos 0 ∷ []))
    × (entry_line_says (entry_line Integer (record { 0 = 2 }) (record { 0 = 3 }) (50 ∷ 32 ∷ 51 ∷ 32 ∷ 45 ∷ 55 ∷ [])) ≡ says 0 (pos 2 ∷ pos 3 ∷ neg_ℤ (pos 7) ∷ []))
    × (entry_line_says (entry_line Pattern (record { 0 = 2 }) (record { 0 = 3 }) (37 ∷ [])) ≡ says 6 [])
    × (entry_line_says (entry_line Pattern (record { 0 = 2 }) (record { 0 = 3 }) (48 ∷ 32 ∷ 49 ∷ [])) ≡ says 7 [])
    × (entry_line_says (entry_line Integer (record { 0 = 2 }) (record { 0 = 3 }) (49 ∷ 32 ∷ 49 ∷ 32 ∷ 49 ∷ 48 ∷ 48 ∷ 48 ∷ 48 ∷ 48 ∷ 49 ∷ []))
    ≡ says 20 [])
unfolding scan words number_from is_minus unsigned fields_by entry_of entry_line
entry_said = (refl, refl, refl, refl, refl, refl)

-- ---- no two answers read alike
numbers : {A : Type 0} {x y : Answer A} → x ≡ y → x.refusal ≡ y.refusal
numbers e = ap (λ (a : Answer _). a.refusal) e

values : {A : Type 0} {x y : Answer A} → x ≡ y → x.value ≡ y.value
values e = ap (λ (a : Answer _). a.value) e

-- a refusal has a number, and all else has none
no_refusal : {A : Type 0} (why : Refusal) → number why ≡ 0 → A
no_refusal why e = absurd (omega (arith, number_pos why))

first_says_injective : (x y : FirstLine) → first_line_says x ≡ first_line_says y → x ≡ y
first_says_injective (Banner k) (Banner m) e = let d : some k ≡ some m = values e in cc
first_says_injective (Banner k) Other e = let d : some k ≡ none = values e in clash (cc)
first_says_injective Other (Banner m) e = let d : none ≡ some m = values e in clash (cc)
first_says_injective Other Other e = refl

pub head_says_injective : (x y : HeadLine) → head_line_says x ≡ head_line_says y → x ≡ y
head_says_injective skip_head skip_head e = refl
head_says_injective skip_head (Size g c n) e = let d : [] ≡ g.0 ∷ c.0 ∷ n ∷ [] = values e in clash (cc)
head_says_injective skip_head (bad_head why) e = no_refusal why (sym (numbers e))
head_says_injective (Size g c n) skip_head e = let d : g.0 ∷ c.0 ∷ n ∷ [] ≡ [] = values e in clash (cc)
head_says_injective (Size g c n) (Size h d m) e =
    let s : g.0 ∷ c.0 ∷ n ∷ [] ≡ h.0 ∷ d.0 ∷ m ∷ [] = values e in
    let p : g.0 ≡ h.0 = cc in
    let q : c.0 ≡ d.0 = cc in
    let r : n ≡ m = cc in
    λ i. Size (record { 0 = p i }) (record { 0 = q i }) (r i)
head_says_injective (Size g c n) (bad_head why) e = no_refusal why (sym (numbers e))
head_says_injective (bad_head why) skip_head e = no_refusal why (numbers e)
head_says_injective (bad_head why) (Size h d m) e = no_refusal why (numbers e)
head_says_injective (bad_head why) (bad_head also) e = ap bad_head (number_injective why also (numbers e))

entry_says_injective : (x y : EntryLine) → entry_line_says x ≡ entry_line_says y → x ≡ y
entry_says_injective skip_entry skip_entry e = refl
entry_says_injective skip_entry (Entry g c v) e = let d : [] ≡ pos g.0 ∷ pos c.0 ∷ v ∷ [] = values e in clash (cc)
entry_says_injective skip_entry (bad_entry why) e = no_refusal why (sym (numbers e))
entry_says_injective (Entry g c v) skip_entry e = let d : pos g.0 ∷ pos c.0 ∷ v ∷ [] ≡ [] = values e in clash (cc)
entry_says_injective (Entry g c v) (Entry h d w) e =
    let s : pos g.0 ∷ pos c.0 ∷ v ∷ [] ≡ pos h.0 ∷ pos d.0 ∷ w ∷ [] = values e in
    let p : g.0 ≡ h.0 = cc in
    let q : c.0 ≡ d.0 = cc in
    let r : v ≡ w = cc in
    λ i. Entry (record { 0 = p i }) (record { 0 = q i }) (r i)
entry_says_injective (Entry g c v) (bad_entry why) e = no_refusal why (sym (numbers e))
entry_says_injective (bad_entry why) skip_entry e = no_refusal why (numbers e)
entry_says_injective (bad_entry why) (Entry h d w) e = no_refusal why (numbers e)
entry_says_injective (bad_entry why) (bad_entry also) e = ap bad_entry (number_injective why also (numbers e))

-- ---- so an answer that reads as the line's is the line's
pub first_is : (integers : Bool) (l : List ℕ) (x : FirstLine) → first_line_says x ≡ first_line_says (first_line integers l) → x ≡ first_line integers l
first_is integers l x e = first_says_injective x (first_line integers l) e

pub head_is : (l : List ℕ) (x : HeadLine) → head_line_says x ≡ head_line_says (head_line l) → x ≡ head_line l
head_is l x e = head_says_injective x (head_line l) e

pub entry_is : (kind : Kind) (gs : Gauge) (cs : Case) (l : List ℕ) (x : EntryLine) → entry_line_says x ≡ entry_line_says (entry_line kind gs cs l)
    → x ≡ entry_line kind gs cs l
entry_is kind gs cs l x e = entry_says_injective x (entry_line kind gs cs l) e
