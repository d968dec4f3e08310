-- What the definitions of specs/Kinds.antt say of one line behind the first, in 01's words (specs/OneLine.antt).
use Prim.Native.Nat.{ℕ, ◌≤◌}
use mathlib.Core.Path.{◌≡◌, refl, sym, ap, subst, ◌∙◌}
use mathlib.Core.Logic.{◌↔◌, ◌⊎◌, inl, inr}
use mathlib.Core.List.{List, [], ◌∷◌}
use mathlib.Core.Option.{Option, some, none}
use mathlib.Core.Bool.{Bool, true, false, cond, ◌&&◌}
use native.Mathlib.Omega.{arith}
use lib.ListN.{length}
use lib.IntN.{ℤ, pos, nat_abs}
use borrow.Author.Tests.{ltb-false, ltb-true, le-ltb, lt-ltb, leb-true, leb-false, le-leb, lt-leb}
use Rattle.basics.proofs.Clash.{clash}
use Rattle.table.specs.Tables.{in_range}
use Rattle.table.proofs.Legality.{range_is, in_range_lem, range_not}
use Rattle.table.specs.declared.Gauge.{Gauge}
use Rattle.table.specs.declared.Case.{Case}
use Rattle.recorded.specs.declared.Kind.{Kind}
use Rattle.recorded.specs.declared.Kind.TheVariants.{Pattern, Integer}
use Rattle.refusals.specs.declared.Refusal.TheVariants.{LineTooLong, SizeFields, SizeRange, PairFields, PairRange, ReadingRange}
use Rattle.file_text.specs.Fields.{shape, fields}
use Rattle.file_text.specs.declared.Fields.{Fields}
use Rattle.file_text.specs.declared.Fields.TheVariants.{Blank, Two, Three, Other}
use Rattle.file_entries.specs.Values.{number_of, value_of}
use Rattle.file_entries.specs.Words.{words, entry_of as entry_words}
use Rattle.file_entries.specs.declared.EntryFields.{EntryFields}
use Rattle.file_entries.specs.declared.EntryFields.TheVariants.{Blank as no_fields, Entry as fields_of, Other as other_fields}
use Rattle.file_entries.proofs.OldFields.{numbers_of, fields_are_words}
use Rattle.file_kinds.specs.Kinds.{is_comment, too_long, size_of, head_line, pair_of, fields_by, in_reach, entry_of, entry_line}
use Rattle.file_kinds.specs.declared.HeadLine.TheVariants.{Size, Skip as skip_head, Bad as bad_head}
use Rattle.file_kinds.specs.declared.EntryLine.{EntryLine}
use Rattle.file_kinds.specs.declared.EntryLine.TheVariants.{Entry, Skip as skip_entry, Bad as bad_entry}
use Rattle.file_kinds.specs.OneLine.{PassedLine, ThreeFields, SizeLine, BlankLine, EntryWords, pair, reading, EntryIs}
use Rattle.file_kinds.specs.OneLine.{BadHead, head_long, head_fields, head_range, BadEntry, entry_long, entry_malformed, entry_range, entry_reach}
use Rattle.refusals.specs.declared.Refusal.{Refusal}

-- ---- the fields of a line, by its words
abbrev by_words : List (List ℕ) → Fields
by_words ws = shape (numbers_of ws)

fields_by_lem : (t : List ℕ) → fields t ≡ by_words (words t)
fields_by_lem t = ap shape (fields_are_words t)

blank_words : (ws : List (List ℕ)) → by_words ws ≡ Blank → ws ≡ []
blank_words [] e = refl
blank_words (a ∷ ws) e = go (number_of a) refl (numbers_of ws) refl
  where
    go : (x : Option ℕ) → number_of a ≡ x → (y : Option (List ℕ)) → numbers_of ws ≡ y → a ∷ ws ≡ []
    go none p y q = let d : Other ≡ Blank = rw p at e in clash (cc)
    go (some x) p none q = let d : Other ≡ Blank = rw (p, q) at e in clash (cc)
    go (some x) p (some fs) q = many fs (rw (p, q) at e)
      where
        many : (fs : List ℕ) → shape (some (x ∷ fs)) ≡ Blank → a ∷ ws ≡ []
        many [] d = clash (cc)
        many (y ∷ []) d = clash (cc)
        many (y ∷ z ∷ []) d = clash (cc)
        many (y ∷ z ∷ w ∷ fs) d = clash (cc)

three_words : (ws : List (List ℕ)) (g l n : ℕ) → by_words ws ≡ Three g l n → ThreeFields ws g l n
three_words [] g l n e = clash (cc)
three_words (a ∷ []) g l n e = go (number_of a) refl
  where
    go : (x : Option ℕ) → number_of a ≡ x → ThreeFields (a ∷ []) g l n
    go none p = let d : Other ≡ Three g l n = rw p at e in clash (cc)
    go (some x) p = let d : Other ≡ Three g l n = rw p at e in clash (cc)
three_words (a ∷ b ∷ []) g l n e = go (number_of a) refl (number_of b) refl
  where
    go : (x : Option ℕ) → number_of a ≡ x → (y : Option ℕ) → number_of b ≡ y → ThreeFields (a ∷ b ∷ []) g l n
    go none p y q = let d : Other ≡ Three g l n = rw p at e in clash (cc)
    go (some x) p none q = let d : Other ≡ Three g l n = rw (p, q) at e in clash (cc)
    go (some x) p (some y) q = let d : Two x y ≡ Three g l n = rw (p, q) at e in clash (cc)
three_words (a ∷ b ∷ c ∷ []) g l n e = go (number_of a) refl (number_of b) refl (number_of c) refl
  where
    go : (x : Option ℕ) → number_of a ≡ x → (y : Option ℕ) → number_of b ≡ y → (z : Option ℕ) → number_of c ≡ z → ThreeFields (a ∷ b ∷ c ∷ []) g l n
    go none p y q z r = let d : Other ≡ Three g l n = rw p at e in clash (cc)
    go (some x) p none q z r = let d : Other ≡ Three g l n = rw (p, q) at e in clash (cc)
    go (some x) p (some y) q none r = let d : Other ≡ Three g l n = rw (p, q, r) at e in clash (cc)
    go (some x) p (some y) q (some z) r =
        let d : Three x y z ≡ Three g l n = rw (p, q, r) at e in
        record { a = a; b = b; c = c; are = refl; first = p ∙ ap some (cc); second = q ∙ ap some (cc); third = r ∙ ap some (cc) }
three_words (a ∷ b ∷ c ∷ d ∷ ws) g l n e = go (number_of a) refl (number_of b) refl (number_of c) refl (number_of d) refl (numbers_of ws) refl
  where
    go : (x : Option ℕ) → number_of a ≡ x → (y : Option ℕ) → number_of b ≡ y → (z : Option ℕ) → number_of c ≡ z → (w : Option ℕ) → number_of d ≡ w
        → (fs : Option (List ℕ)) → numbers_of ws ≡ fs → ThreeFields (a ∷ b ∷ c ∷ d ∷ ws) g l n
    go none p y q z r w s fs u = let d : Other ≡ Three g l n = rw p at e in clash (cc)
    go (some x) p none q z r w s fs u = let d : Other ≡ Three g l n = rw (p, q) at e in clash (cc)
    go (some x) p (some y) q none r w s fs u = let d : Other ≡ Three g l n = rw (p, q, r) at e in clash (cc)
    go (some x) p (some y) q (some z) r none s fs u = let d : Other ≡ Three g l n = rw (p, q, r, s) at e in clash (cc)
    go (some x) p (some y) q (some z) r (some w) s none u = let d : Other ≡ Three g l n = rw (p, q, r, s, u) at e in clash (cc)
    go (some x) p (some y) q (some z) r (some w) s (some fs) u = let d : Other ≡ Three g l n = rw (p, q, r, s, u) at e in clash (cc)

words_three : (ws : List (List ℕ)) (g l n : ℕ) → ThreeFields ws g l n → by_words ws ≡ Three g l n
words_three ws g l n f = rw (f.are, f.first, f.second, f.third)

two_words : (ws : List (List ℕ)) (g c : ℕ) → by_words ws ≡ Two g c → EntryWords ws g c Pattern (pos 0)
two_words [] g c e = clash (cc)
two_words (a ∷ []) g c e = go (number_of a) refl
  where
    go : (x : Option ℕ) → number_of a ≡ x → EntryWords (a ∷ []) g c Pattern (pos 0)
    go none p = let d : Other ≡ Two g c = rw p at e in clash (cc)
    go (some x) p = let d : Other ≡ Two g c = rw p at e in clash (cc)
two_words (a ∷ b ∷ []) g c e = go (number_of a) refl (number_of b) refl
  where
    go : (x : Option ℕ) → number_of a ≡ x → (y : Option ℕ) → number_of b ≡ y → EntryWords (a ∷ b ∷ []) g c Pattern (pos 0)
    go none p y q = let d : Other ≡ Two g c = rw p at e in clash (cc)
    go (some x) p none q = let d : Other ≡ Two g c = rw (p, q) at e in clash (cc)
    go (some x) p (some y) q =
        let d : Two x y ≡ Two g c = rw (p, q) at e in
        pair a b refl (p ∙ ap some (cc)) (q ∙ ap some (cc))
two_words (a ∷ b ∷ d ∷ ws) g c e = go (number_of a) refl (number_of b) refl (number_of d) refl (numbers_of ws) refl
  where
    go : (x : Option ℕ) → number_of a ≡ x → (y : Option ℕ) → number_of b ≡ y → (z : Option ℕ) → number_of d ≡ z → (fs : Option (List ℕ)) → numbers_of ws ≡ fs
        → EntryWords (a ∷ b ∷ d ∷ ws) g c Pattern (pos 0)
    go none p y q z r fs u = let k : Other ≡ Two g c = rw p at e in clash (cc)
    go (some x) p none q z r fs u = let k : Other ≡ Two g c = rw (p, q) at e in clash (cc)
    go (some x) p (some y) q none r fs u = let k : Other ≡ Two g c = rw (p, q, r) at e in clash (cc)
    go (some x) p (some y) q (some z) r none u = let k : Other ≡ Two g c = rw (p, q, r, u) at e in clash (cc)
    go (some x) p (some y) q (some z) r (some []) u = let k : Three x y z ≡ Two g c = rw (p, q, r, u) at e in clash (cc)
    go (some x) p (some y) q (some z) r (some (w ∷ fs)) u = let k : Other ≡ Two g c = rw (p, q, r, u) at e in clash (cc)

-- ---- lines ahead of the entries
size_skip : (f : Fields) → size_of f ≡ skip_head → f ≡ Blank
size_skip Blank e = refl
size_skip (Two a b) e = clash (cc)
size_skip (Three g l n) e = go (in_range 64 g && in_range 64 l) refl
  where
    go : (t : Bool) → (in_range 64 g && in_range 64 l) ≡ t → Three g l n ≡ Blank
    go true p = let d : Size (record { 0 = g }) (record { 0 = l }) n ≡ skip_head = rw p at e in clash (cc)
    go false p = let d : bad_head SizeRange ≡ skip_head = rw p at e in clash (cc)
size_skip Other e = clash (cc)

pub passed_line : (t : List ℕ) → (head_line t ≡ skip_head) ↔ PassedLine t
passed_line t = (to, from)
  where
    to : head_line t ≡ skip_head → PassedLine t
    to e = long (too_long t) refl
      where
        comment : length t ≤ 1024 → (c : Bool) → is_comment t ≡ c → cond c skip_head (size_of (fields t)) ≡ skip_head → PassedLine t
        comment h true p d = record { short = h; passes = inl p }
        comment h false p d = record { short = h; passes = inr (blank_words (words t) (sym (fields_by_lem t) ∙ size_skip (fields t) d)) }

        long : (b : Bool) → too_long t ≡ b → PassedLine t
        long true p = let d : bad_head LineTooLong ≡ skip_head = rw p at e in clash (cc)
        long false p =
            let d : cond (is_comment t) skip_head (size_of (fields t)) ≡ skip_head = rw p at e in
            comment (omega (arith, ltb-false 1024 (length t) p)) (is_comment t) refl d

    from : PassedLine t → head_line t ≡ skip_head
    from l = rw (le-ltb 1024 (length t) l.short) (go (is_comment t) refl l.passes)
      where
        go : (c : Bool) → is_comment t ≡ c → (is_comment t ≡ true) ⊎ (words t ≡ []) → cond c skip_head (size_of (fields t)) ≡ skip_head
        go true p w = refl
        go false p (inl q) = let z : true ≡ false = sym q ∙ p in clash (cc)
        go false p (inr q) = ap size_of (fields_by_lem t ∙ ap by_words q)

pub size_line : (t : List ℕ) (g : Gauge) (l : Case) (n : ℕ) → (head_line t ≡ Size g l n) ↔ SizeLine t g.0 l.0 n
size_line t g l n = (to, from)
  where
    to : head_line t ≡ Size g l n → SizeLine t g.0 l.0 n
    to e = long (too_long t) refl
      where
        inner : length t ≤ 1024 → is_comment t ≡ false → (f : Fields) → fields t ≡ f → size_of f ≡ Size g l n → SizeLine t g.0 l.0 n
        inner h p Blank q d = clash (cc)
        inner h p (Two a b) q d = clash (cc)
        inner h p Other q d = clash (cc)
        inner h p (Three a b m) q d = go (in_range 64 a) refl (in_range 64 b) refl
          where
            go : (x : Bool) → in_range 64 a ≡ x → (y : Bool) → in_range 64 b ≡ y → SizeLine t g.0 l.0 n
            go false u y v = let k : bad_head SizeRange ≡ Size g l n = rw u at d in clash (cc)
            go true u false v = let k : bad_head SizeRange ≡ Size g l n = rw (u, v) at d in clash (cc)
            go true u true v =
                let k : Size (record { 0 = a }) (record { 0 = b }) m ≡ Size g l n = rw (u, v) at d in
                let x : record { 0 = a } ≡ g = cc in
                let y : record { 0 = b } ≡ l = cc in
                let z : m ≡ n = cc in
                let x0 : a ≡ g.0 = ap (λ (w : Gauge). w.0) x in
                let y0 : b ≡ l.0 = ap (λ (w : Case). w.0) y in
                let r : fields t ≡ Three g.0 l.0 n = q ∙ (rw (x0, y0, z)) in
                record {
                  short = h;
                  no_comment = p;
                  fields_are = three_words (words t) g.0 l.0 n (sym (fields_by_lem t) ∙ r);
                  gauges = rw x0 at (range_is 64 a u);
                  cases = rw y0 at (range_is 64 b v);
                }

        comment : length t ≤ 1024 → (c : Bool) → is_comment t ≡ c → cond c skip_head (size_of (fields t)) ≡ Size g l n → SizeLine t g.0 l.0 n
        comment h true p d = clash (cc)
        comment h false p d = inner h p (fields t) refl d

        long : (b : Bool) → too_long t ≡ b → SizeLine t g.0 l.0 n
        long true p = let d : bad_head LineTooLong ≡ Size g l n = rw p at e in clash (cc)
        long false p =
            let d : cond (is_comment t) skip_head (size_of (fields t)) ≡ Size g l n = rw p at e in
            comment (omega (arith, ltb-false 1024 (length t) p)) (is_comment t) refl d

    from : SizeLine t g.0 l.0 n → head_line t ≡ Size g l n
    from s =
        let f : fields t ≡ Three g.0 l.0 n = fields_by_lem t ∙ words_three (words t) g.0 l.0 n s.fields_are in
        rw (le-ltb 1024 (length t) s.short, s.no_comment)
        (ap size_of f ∙ (rw (in_range_lem 64 g.0 s.gauges.0 s.gauges.1, in_range_lem 64 l.0 s.cases.0 s.cases.1)))

-- ---- lines behind the size line: their fields by the kind of file
pair_blank : (f : Fields) → pair_of f ≡ no_fields → f ≡ Blank
pair_blank Blank e = refl
pair_blank (Two a b) e = clash (cc)
pair_blank (Three a b c) e = clash (cc)
pair_blank Other e = clash (cc)

entry_blank : (ws : List (List ℕ)) → entry_words ws ≡ no_fields → ws ≡ []
entry_blank [] e = refl
entry_blank (a ∷ []) e = clash (cc)
entry_blank (a ∷ b ∷ []) e = clash (cc)
entry_blank (a ∷ b ∷ c ∷ []) e = go (number_of a) refl (number_of b) refl (value_of c) refl
  where
    go : (x : Option ℕ) → number_of a ≡ x → (y : Option ℕ) → number_of b ≡ y → (z : Option ℤ) → value_of c ≡ z → a ∷ b ∷ c ∷ [] ≡ []
    go none p y q z r = let d : other_fields ≡ no_fields = rw p at e in clash (cc)
    go (some x) p none q z r = let d : other_fields ≡ no_fields = rw (p, q) at e in clash (cc)
    go (some x) p (some y) q none r = let d : other_fields ≡ no_fields = rw (p, q, r) at e in clash (cc)
    go (some x) p (some y) q (some z) r = let d : fields_of x y z ≡ no_fields = rw (p, q, r) at e in clash (cc)
entry_blank (a ∷ b ∷ c ∷ d ∷ ws) e = clash (cc)

by_blank : (kind : Kind) (t : List ℕ) → (fields_by kind t ≡ no_fields) ↔ (words t ≡ [])
unfolding fields_by
by_blank Pattern t = (
  λ e. blank_words (words t) (sym (fields_by_lem t) ∙ pair_blank (fields t) e),
  λ e. ap pair_of (fields_by_lem t ∙ ap by_words e),
)
by_blank Integer t = (λ e. entry_blank (words t) e, λ e. ap entry_words e)

pair_entry : (f : Fields) (g c : ℕ) (v : ℤ) → pair_of f ≡ fields_of g c v → (f ≡ Two g c) × (v ≡ pos 0)
pair_entry Blank g c v e = clash (cc)
pair_entry (Two a b) g c v e =
    let p : a ≡ g = cc in
    let q : b ≡ c = cc in
    let r : pos 0 ≡ v = cc in
    (rw (p, q), sym r)
pair_entry (Three a b d) g c v e = clash (cc)
pair_entry Other g c v e = clash (cc)

entry_reading : (ws : List (List ℕ)) (g c : ℕ) (v : ℤ) → entry_words ws ≡ fields_of g c v → EntryWords ws g c Integer v
entry_reading [] g c v e = clash (cc)
entry_reading (a ∷ []) g c v e = clash (cc)
entry_reading (a ∷ b ∷ []) g c v e = clash (cc)
entry_reading (a ∷ b ∷ d ∷ []) g c v e = go (number_of a) refl (number_of b) refl (value_of d) refl
  where
    go : (x : Option ℕ) → number_of a ≡ x → (y : Option ℕ) → number_of b ≡ y → (z : Option ℤ) → value_of d ≡ z → EntryWords (a ∷ b ∷ d ∷ []) g c Integer v
    go none p y q z r = let k : other_fields ≡ fields_of g c v = rw p at e in clash (cc)
    go (some x) p none q z r = let k : other_fields ≡ fields_of g c v = rw (p, q) at e in clash (cc)
    go (some x) p (some y) q none r = let k : other_fields ≡ fields_of g c v = rw (p, q, r) at e in clash (cc)
    go (some x) p (some y) q (some z) r =
        let k : fields_of x y z ≡ fields_of g c v = rw (p, q, r) at e in
        let w : z ≡ v = cc in
        reading a b d refl (p ∙ ap some (cc)) (q ∙ ap some (cc)) (r ∙ ap some w)
entry_reading (a ∷ b ∷ d ∷ w ∷ ws) g c v e = clash (cc)

as_kind : (ws : List (List ℕ)) (g c : ℕ) (kind : Kind) (v w : ℤ) → v ≡ w → EntryWords ws g c kind w → EntryWords ws g c kind v
as_kind ws g c kind v w e x = rw e x

by_entry : (kind : Kind) (t : List ℕ) (g c : ℕ) (v : ℤ) → (fields_by kind t ≡ fields_of g c v) ↔ EntryWords (words t) g c kind v
unfolding fields_by
by_entry Pattern t g c v = (
  λ e.
      let (p, q) = pair_entry (fields t) g c v e in
      as_kind (words t) g c Pattern v (pos 0) q (two_words (words t) g c (sym (fields_by_lem t) ∙ p)),
  from v,
)
  where
    from : (v : ℤ) → EntryWords (words t) g c Pattern v → pair_of (fields t) ≡ fields_of g c v
    from v (pair a b e p q) =
        let f : fields t ≡ Two g c = fields_by_lem t ∙ (rw (e, p, q)) in
        ap pair_of f
by_entry Integer t g c v = (entry_reading (words t) g c v, from v)
  where
    from : (v : ℤ) → EntryWords (words t) g c Integer v → entry_words (words t) ≡ fields_of g c v
    from v (reading a b d e p q r) = rw (e, p, q, r)

-- ---- the lines
module _ (kind : Kind) (gs : Gauge) (cs : Case) (t : List ℕ) where
  short_line : length t ≤ 1024 → entry_line kind gs cs t ≡ entry_of gs cs (fields_by kind t)
  unfolding entry_line
  short_line h = rw (le-ltb 1024 (length t) h)

  -- a line that is not refused as too long
  by_length : (x : EntryLine) → entry_line kind gs cs t ≡ x → (x ≡ bad_entry LineTooLong → ⊥) → (length t ≤ 1024) × (entry_of gs cs (fields_by kind t) ≡ x)
  unfolding entry_line
  by_length x e n = go (too_long t) refl
    where
      go : (b : Bool) → too_long t ≡ b → (length t ≤ 1024) × (entry_of gs cs (fields_by kind t) ≡ x)
      go true p = let d : bad_entry LineTooLong ≡ x = rw p at e in absurd (n (sym d))
      go false p = (omega (arith, ltb-false 1024 (length t) p), rw p at e)

  of_skip : (f : EntryFields) → entry_of gs cs f ≡ skip_entry → f ≡ no_fields
  unfolding entry_of
  of_skip no_fields e = refl
  of_skip other_fields e = clash (cc)
  of_skip (fields_of a b v) e = go (in_range gs.0 a && in_range cs.0 b) refl (in_reach v) refl
    where
      go : (x : Bool) → (in_range gs.0 a && in_range cs.0 b) ≡ x → (y : Bool) → in_reach v ≡ y → fields_of a b v ≡ no_fields
      go false p y q = let d : bad_entry PairRange ≡ skip_entry = rw p at e in clash (cc)
      go true p false q = let d : bad_entry ReadingRange ≡ skip_entry = rw (p, q) at e in clash (cc)
      go true p true q = let d : Entry (record { 0 = a }) (record { 0 = b }) v ≡ skip_entry = rw (p, q) at e in clash (cc)

  pub blank_line : (entry_line kind gs cs t ≡ skip_entry) ↔ BlankLine t
  unfolding entry_of
  blank_line = (
    λ e.
        let (h, d) = by_length skip_entry e (λ z. clash (cc)) in
        record { short = h; blank = (by_blank kind t).0 (of_skip (fields_by kind t) d) },
    λ l. short_line l.short ∙ ap (entry_of gs cs) ((by_blank kind t).1 l.blank),
  )

  of_entry : (g : Gauge) (c : Case) (v : ℤ) (f : EntryFields) → entry_of gs cs f ≡ Entry g c v
      → (f ≡ fields_of g.0 c.0 v) × ((1 ≤ g.0) × (g.0 ≤ gs.0)) × ((1 ≤ c.0) × (c.0 ≤ cs.0)) × (nat_abs v ≤ 1000000)
  unfolding entry_of
  of_entry g c v no_fields e = clash (cc)
  of_entry g c v other_fields e = clash (cc)
  of_entry g c v (fields_of a b w) e = go (in_range gs.0 a) refl (in_range cs.0 b) refl (in_reach w) refl
    where
      go : (x : Bool) → in_range gs.0 a ≡ x → (y : Bool) → in_range cs.0 b ≡ y → (z : Bool) → in_reach w ≡ z
          → (fields_of a b w ≡ fields_of g.0 c.0 v) × ((1 ≤ g.0) × (g.0 ≤ gs.0)) × ((1 ≤ c.0) × (c.0 ≤ cs.0)) × (nat_abs v ≤ 1000000)
      go false p y q z r = let d : bad_entry PairRange ≡ Entry g c v = rw p at e in clash (cc)
      go true p false q z r = let d : bad_entry PairRange ≡ Entry g c v = rw (p, q) at e in clash (cc)
      go true p true q false r = let d : bad_entry ReadingRange ≡ Entry g c v = rw (p, q, r) at e in clash (cc)
      go true p true q true r =
          let d : Entry (record { 0 = a }) (record { 0 = b }) w ≡ Entry g c v = rw (p, q, r) at e in
          let x : record { 0 = a } ≡ g = cc in
          let y : record { 0 = b } ≡ c = cc in
          let z : w ≡ v = cc in
          let x0 : a ≡ g.0 = ap (λ (k : Gauge). k.0) x in
          let y0 : b ≡ c.0 = ap (λ (k : Case). k.0) y in
          (rw (x0, y0, z), rw x0 at (range_is gs.0 a p), rw y0 at (range_is cs.0 b q), rw z at (leb-true (nat_abs w) 1000000 r))

  pub entry_line_lem : (g : Gauge) (c : Case) (v : ℤ) → (entry_line kind gs cs t ≡ Entry g c v) ↔ EntryIs kind gs.0 cs.0 t g.0 c.0 v
  unfolding entry_of
  entry_line_lem g c v = (
    λ e.
        let (h, d) = by_length (Entry g c v) e (λ z. clash (cc)) in
        let (f, p, q, r) = of_entry g c v (fields_by kind t) d in
        record { short = h; fields_are = (by_entry kind t g.0 c.0 v).0 f; gauge = p; case = q; reach = r },
    λ l.
        short_line l.short
        ∙ ap (entry_of gs cs) ((by_entry kind t g.0 c.0 v).1 l.fields_are)
        ∙ (rw (
          in_range_lem gs.0 g.0 l.gauge.0 l.gauge.1,
          in_range_lem cs.0 c.0 l.case.0 l.case.1,
          le-leb (nat_abs v) 1000000 l.reach,
        )),
  )

-- ---- lines that fail
not_both : (g l : ℕ) → ¬ (((1 ≤ g) × (g ≤ 64)) × ((1 ≤ l) × (l ≤ 64))) → (in_range 64 g && in_range 64 l) ≡ false
not_both g l n = go (in_range 64 g) refl (in_range 64 l) refl
  where
    go : (x : Bool) → in_range 64 g ≡ x → (y : Bool) → in_range 64 l ≡ y → (x && y) ≡ false
    go true p true q = absurd (n (range_is 64 g p, range_is 64 l q))
    go true p false q = refl
    go false p y q = refl

pub bad_head_lem : (t : List ℕ) (why : Refusal) → (head_line t ≡ bad_head why) ↔ BadHead t why
bad_head_lem t why = (to, from why)
  where
    to : head_line t ≡ bad_head why → BadHead t why
    to e = long (too_long t) refl
      where
        inner : length t ≤ 1024 → is_comment t ≡ false → (f : Fields) → fields t ≡ f → size_of f ≡ bad_head why → BadHead t why
        inner h p Blank q d = clash (cc)
        inner h p (Two a b) q d =
            let w : SizeFields ≡ why = cc in
            subst (BadHead t) w
            (head_fields h p (λ z. let k : Two a b ≡ Blank = sym q ∙ fields_by_lem t ∙ ap by_words z in clash (cc))
            (λ g l n z. let k : Two a b ≡ Three g l n = sym q ∙ fields_by_lem t ∙ words_three (words t) g l n z in clash (cc)))
        inner h p Other q d =
            let w : SizeFields ≡ why = cc in
            subst (BadHead t) w
            (head_fields h p (λ z. let k : Other ≡ Blank = sym q ∙ fields_by_lem t ∙ ap by_words z in clash (cc))
            (λ g l n z. let k : Other ≡ Three g l n = sym q ∙ fields_by_lem t ∙ words_three (words t) g l n z in clash (cc)))
        inner h p (Three a b m) q d = go (in_range 64 a) refl (in_range 64 b) refl
          where
            fs : ThreeFields (words t) a b m
            fs = three_words (words t) a b m (sym (fields_by_lem t) ∙ q)

            go : (x : Bool) → in_range 64 a ≡ x → (y : Bool) → in_range 64 b ≡ y → BadHead t why
            go false u y v =
                let k : bad_head SizeRange ≡ bad_head why = rw u at d in
                let w : SizeRange ≡ why = cc in
                subst (BadHead t) w (head_range h p fs (λ z. range_not 64 a u z.0))
            go true u false v =
                let k : bad_head SizeRange ≡ bad_head why = rw (u, v) at d in
                let w : SizeRange ≡ why = cc in
                subst (BadHead t) w (head_range h p fs (λ z. range_not 64 b v z.1))
            go true u true v = let k : Size (record { 0 = a }) (record { 0 = b }) m ≡ bad_head why = rw (u, v) at d in clash (cc)

        comment : length t ≤ 1024 → (c : Bool) → is_comment t ≡ c → cond c skip_head (size_of (fields t)) ≡ bad_head why → BadHead t why
        comment h true p d = clash (cc)
        comment h false p d = inner h p (fields t) refl d

        long : (b : Bool) → too_long t ≡ b → BadHead t why
        long true p =
            let d : bad_head LineTooLong ≡ bad_head why = rw p at e in
            let w : LineTooLong ≡ why = cc in
            subst (BadHead t) w (head_long (ltb-true 1024 (length t) p))
        long false p =
            let d : cond (is_comment t) skip_head (size_of (fields t)) ≡ bad_head why = rw p at e in
            comment (omega (arith, ltb-false 1024 (length t) p)) (is_comment t) refl d

    malformed : (f : Fields) → fields t ≡ f → ¬ (words t ≡ []) → ((g l n : ℕ) → ¬ ThreeFields (words t) g l n) → size_of f ≡ bad_head SizeFields
    malformed Blank q b n = absurd (b (blank_words (words t) (sym (fields_by_lem t) ∙ q)))
    malformed (Two x y) q b n = refl
    malformed (Three g l m) q b n = absurd (n g l m (three_words (words t) g l m (sym (fields_by_lem t) ∙ q)))
    malformed Other q b n = refl

    from : (why : Refusal) → BadHead t why → head_line t ≡ bad_head why
    from why (head_long h) = rw (lt-ltb 1024 (length t) h)
    from why (head_fields h p b n) = rw (le-ltb 1024 (length t) h, p) (malformed (fields t) refl b n)
    from why (head_range {g} {l} {n} h p f k) =
        let q : fields t ≡ Three g l n = fields_by_lem t ∙ words_three (words t) g l n f in
        rw (le-ltb 1024 (length t) h, p) (ap size_of q ∙ (rw (not_both g l k)))

module _ (kind : Kind) (gs : Gauge) (cs : Case) (t : List ℕ) where
  outside : (g c : ℕ) → ¬ (((1 ≤ g) × (g ≤ gs.0)) × ((1 ≤ c) × (c ≤ cs.0))) → (in_range gs.0 g && in_range cs.0 c) ≡ false
  outside g c n = go (in_range gs.0 g) refl (in_range cs.0 c) refl
    where
      go : (x : Bool) → in_range gs.0 g ≡ x → (y : Bool) → in_range cs.0 c ≡ y → (x && y) ≡ false
      go true p true q = absurd (n (range_is gs.0 g p, range_is cs.0 c q))
      go true p false q = refl
      go false p y q = refl

  of_bad : (why : Refusal) → length t ≤ 1024 → (f : EntryFields) → fields_by kind t ≡ f → entry_of gs cs f ≡ bad_entry why → BadEntry kind gs.0 cs.0 t why
  unfolding entry_of
  of_bad why h no_fields q e = clash (cc)
  of_bad why h other_fields q e =
      let w : PairFields ≡ why = cc in
      subst (BadEntry kind gs.0 cs.0 t) w
      (entry_malformed h (λ z. let k : other_fields ≡ no_fields = sym q ∙ (by_blank kind t).1 z in clash (cc))
      (λ g c v z. let k : other_fields ≡ fields_of g c v = sym q ∙ (by_entry kind t g c v).1 z in clash (cc)))
  of_bad why h (fields_of a b v) q e = go (in_range gs.0 a) refl (in_range cs.0 b) refl (in_reach v) refl
    where
      fs : EntryWords (words t) a b kind v
      fs = (by_entry kind t a b v).0 q

      go : (x : Bool) → in_range gs.0 a ≡ x → (y : Bool) → in_range cs.0 b ≡ y → (z : Bool) → in_reach v ≡ z → BadEntry kind gs.0 cs.0 t why
      go false p y u z r =
          let d : bad_entry PairRange ≡ bad_entry why = rw p at e in
          let w : PairRange ≡ why = cc in
          subst (BadEntry kind gs.0 cs.0 t) w (entry_range h fs (λ k. range_not gs.0 a p k.0))
      go true p false u z r =
          let d : bad_entry PairRange ≡ bad_entry why = rw (p, u) at e in
          let w : PairRange ≡ why = cc in
          subst (BadEntry kind gs.0 cs.0 t) w (entry_range h fs (λ k. range_not cs.0 b u k.1))
      go true p true u false r =
          let d : bad_entry ReadingRange ≡ bad_entry why = rw (p, u, r) at e in
          let w : ReadingRange ≡ why = cc in
          subst (BadEntry kind gs.0 cs.0 t) w
          (entry_reach h fs (range_is gs.0 a p) (range_is cs.0 b u) (leb-false (nat_abs v) 1000000 r))
      go true p true u true r = let d : Entry (record { 0 = a }) (record { 0 = b }) v ≡ bad_entry why = rw (p, u, r) at e in clash (cc)

  bad_short : (f : EntryFields) → fields_by kind t ≡ f → ¬ (words t ≡ []) → ((g c : ℕ) (v : ℤ) → ¬ EntryWords (words t) g c kind v)
      → entry_of gs cs f ≡ bad_entry PairFields
  unfolding entry_of
  bad_short no_fields q b n = absurd (b ((by_blank kind t).0 q))
  bad_short other_fields q b n = refl
  bad_short (fields_of g c v) q b n = absurd (n g c v ((by_entry kind t g c v).0 q))

  bad_from : (why : Refusal) → BadEntry kind gs.0 cs.0 t why → entry_line kind gs cs t ≡ bad_entry why
  unfolding entry_of entry_line
  bad_from why (entry_long h) = rw (lt-ltb 1024 (length t) h)
  bad_from why (entry_malformed h b n) = short_line kind gs cs t h ∙ bad_short (fields_by kind t) refl b n
  bad_from why (entry_range {g} {c} {v} h f n) =
      short_line kind gs cs t h ∙ ap (entry_of gs cs) ((by_entry kind t g c v).1 f) ∙ (rw (outside g c n))
  bad_from why (entry_reach {g} {c} {v} h f p q r) =
      short_line kind gs cs t h
      ∙ ap (entry_of gs cs) ((by_entry kind t g c v).1 f)
      ∙ (rw (in_range_lem gs.0 g p.0 p.1, in_range_lem cs.0 c q.0 q.1, lt-leb (nat_abs v) 1000000 r))

  bad_to : (why : Refusal) → entry_line kind gs cs t ≡ bad_entry why → BadEntry kind gs.0 cs.0 t why
  unfolding entry_line
  bad_to why e = go (too_long t) refl
    where
      go : (b : Bool) → too_long t ≡ b → BadEntry kind gs.0 cs.0 t why
      go true p =
          let d : bad_entry LineTooLong ≡ bad_entry why = rw p at e in
          let w : LineTooLong ≡ why = cc in
          subst (BadEntry kind gs.0 cs.0 t) w (entry_long (ltb-true 1024 (length t) p))
      go false p = of_bad why (omega (arith, ltb-false 1024 (length t) p)) (fields_by kind t) refl (rw p at e)

  pub bad_entry_lem : (why : Refusal) → (entry_line kind gs cs t ≡ bad_entry why) ↔ BadEntry kind gs.0 cs.0 t why
  bad_entry_lem why = (bad_to why, bad_from why)
