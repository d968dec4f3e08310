-- How the answer of `entry_fields` reads: each case (`entry_fields_say_lem`), a line of each kind (`entry_fields_said`), and that no two answers read
-- alike (`entry_fields_say_injective`), so that the reading determines the answer (`entry_fields_are`).
use Prim.Native.Nat.{ℕ}
use mathlib.Core.Path.{◌≡◌, refl}
use mathlib.Core.List.{List, [], ◌∷◌}
use mathlib.Core.Option.{some, none}
use lib.IntN.{ℤ, pos, neg_ℤ}
use Rattle.basics.proofs.Clash.{clash}
use Rattle.file_entries.specs.Values.{number_from, is_minus, unsigned}
use Rattle.file_entries.specs.Words.{words, entry_fields, entry_fields_say}
use Rattle.file_entries.specs.declared.EntryFields.{EntryFields}
use Rattle.file_entries.specs.declared.EntryFields.TheVariants.{Blank, Entry, Other}

-- the values of each case
pub entry_fields_say_lem : (g c : ℕ) (v : ℤ)
    → (entry_fields_say Blank ≡ some []) × (entry_fields_say (Entry g c v) ≡ some (pos g ∷ pos c ∷ v ∷ [])) × (entry_fields_say Other ≡ none)
entry_fields_say_lem g c v = (refl, refl, refl)

-- a space; `2 03 -7`; `2 3`; `+2 3 7`; `2 3 -`
pub entry_fields_said : (entry_fields_say (entry_fields (32 ∷ [])) ≡ some [])
    × (entry_fields_say (entry_fields (50 ∷ 32 ∷ 48 ∷ 51 ∷ 32 ∷ 45 ∷ 55 ∷ [])) ≡ some (pos 2 ∷ pos 3 ∷ neg_ℤ (pos 7) ∷ []))
    × (entry_fields_say (entry_fields (50 ∷ 32 ∷ 51 ∷ [])) ≡ none)
    × (entry_fields_say (entry_fields (43 ∷ 50 ∷ 32 ∷ 51 ∷ 32 ∷ 55 ∷ [])) ≡ none)
    × (entry_fields_say (entry_fields (50 ∷ 32 ∷ 51 ∷ 32 ∷ 45 ∷ [])) ≡ none)
unfolding words number_from is_minus unsigned
entry_fields_said = (refl, refl, refl, refl, refl)

-- ---- no two answers read alike
entry_fields_say_injective : (x y : EntryFields) → entry_fields_say x ≡ entry_fields_say y → x ≡ y
entry_fields_say_injective Blank Blank e = refl
entry_fields_say_injective Blank (Entry g c v) e = clash (cc)
entry_fields_say_injective Blank Other e = clash (cc)
entry_fields_say_injective (Entry g c v) Blank e = clash (cc)
entry_fields_say_injective (Entry g c v) (Entry h d w) e =
    let p : g ≡ h = cc in
    let q : c ≡ d = cc in
    let r : v ≡ w = cc in
    rw (p, q, r)
entry_fields_say_injective (Entry g c v) Other e = clash (cc)
entry_fields_say_injective Other Blank e = clash (cc)
entry_fields_say_injective Other (Entry h d w) e = clash (cc)
entry_fields_say_injective Other Other e = refl

-- an answer that reads as the line's fields is their case
pub entry_fields_are : (l : List ℕ) (x : EntryFields) → entry_fields_say x ≡ entry_fields_say (entry_fields l) → x ≡ entry_fields l
entry_fields_are l x e = entry_fields_say_injective x (entry_fields l) e
