-- The kind of a line, by the tests that the code makes: a size and an entry out of range, an entry that is taken, the fields by the kind; that
-- a size and an entry that are taken are in range, which `reader` rests on. The first line is in Opening.antt.
-- Pins, which nothing else cites: `head-gauges`, `head-cases`, `entry-gauge`, `entry_case`, `entry-reach`, `entry-entry`, `by_pattern`,
-- `by_integer`.
use Prim.Native.Nat.{ℕ, ◌≤◌, ◌<◌}
use mathlib.Core.Path.{◌≡◌, refl, ap, sym, ◌∙◌}
use mathlib.Core.List.{List}
use mathlib.Core.Bool.{Bool, true, false, cond, ◌&&◌}
use native.Mathlib.Omega.{arith}
use lib.ListN.{length}
use lib.Dec.{ltb}
use lib.IntN.{ℤ, pos, nat_abs}
use borrow.Author.Tests.{le-ltb, lt-leb, le-leb, leb-true}
use Rattle.basics.proofs.Clash.{clash}
use Rattle.file_text.specs.Fields.{fields}
use Rattle.table.specs.Tables.{in_range}
use Rattle.table.proofs.Legality.{range_is}
use Rattle.table.specs.declared.Gauge.{Gauge}
use Rattle.table.specs.declared.Case.{Case}
use Rattle.refusals.specs.declared.Refusal.TheVariants.{LineTooLong, SizeRange, PairRange, ReadingRange}
use Rattle.file_kinds.specs.Kinds.{is_comment, size_of, head_line, pair_of, pair_fields, fields_by, in_reach, entry_of, entry_line}
use Rattle.file_text.specs.declared.Fields.{Fields}
use Rattle.file_text.specs.declared.Fields.TheVariants.{Blank, Two, Three, Other}
use Rattle.file_entries.specs.Words.{entry_fields}
use Rattle.file_entries.specs.declared.EntryFields.{EntryFields}
use Rattle.file_entries.specs.declared.EntryFields.TheVariants.{Blank as no_fields, Entry as fields_of, Other as other_fields}
use Rattle.recorded.specs.declared.Kind.{Kind}
use Rattle.recorded.specs.declared.Kind.TheVariants.{Pattern, Integer}
use Rattle.file_kinds.specs.declared.HeadLine.TheVariants.{Size, Skip as skip_head, Bad as bad_head}
use Rattle.file_kinds.specs.declared.EntryLine.TheVariants.{Entry, Bad as bad_entry}

module _ (l : List ℕ) where
  module _ (h : length l ≤ 1024) where
    module _ (t : Bool) (e : t ≡ is_comment l) (p : t ≡ false) (f : Fields) (q : f ≡ fields l) where
      head-fields : size_of f ≡ head_line l
      head-fields = rw (le-ltb 1024 (length l) h, ← e, p, ← q)

      module _ (g c n : ℕ) (x : f ≡ Three g c n) (u : Bool) (a : u ≡ in_range 64 g) where
        pub head-gauges : u ≡ false → bad_head SizeRange ≡ head_line l
        head-gauges k = rw (← a, k) at (ap size_of (sym x) ∙ head-fields)

        pub head-cases : u ≡ true → (v : Bool) → v ≡ in_range 64 c → v ≡ false → bad_head SizeRange ≡ head_line l
        head-cases k v b m = rw (← a, k, ← b, m) at (ap size_of (sym x) ∙ head-fields)

    module _ (kind : Kind) (gs : Gauge) (cs : Case) (f : EntryFields) (q : f ≡ fields_by kind l) where
      by-fields : entry_of gs cs f ≡ entry_line kind gs cs l
      unfolding entry_line
      by-fields = rw (le-ltb 1024 (length l) h, ← q)

      module _ (g c : ℕ) (v : ℤ) (x : f ≡ fields_of g c v) (u : Bool) (a : u ≡ in_range gs.0 g) where
        by-entry : entry_of gs cs (fields_of g c v) ≡ entry_line kind gs cs l
        by-entry = ap (entry_of gs cs) (sym x) ∙ by-fields

        pub entry-gauge : u ≡ false → bad_entry PairRange ≡ entry_line kind gs cs l
        unfolding entry_of
        entry-gauge k = rw (← a, k) at by-entry

        module _ (k : u ≡ true) (w : Bool) (b : w ≡ in_range cs.0 c) where
          pub entry_case : w ≡ false → bad_entry PairRange ≡ entry_line kind gs cs l
          unfolding entry_of
          entry_case m = rw (← a, k, ← b, m) at by-entry

          -- z is what the code handed on of v
          module _ (m : w ≡ true) (z : ℤ) (s : z ≡ v) (n : ℕ) (d : n ≡ nat_abs z) where
            -- a reading beyond 1,000,000 is refused, once the pair is in range
            pub entry-reach : 1000000 < n → bad_entry ReadingRange ≡ entry_line kind gs cs l
            unfolding entry_of
            entry-reach y = rw (← a, k, ← b, m, lt-leb (nat_abs v) 1000000 (omega (arith, d ∙ ap nat_abs s))) at by-entry

            pub entry-entry : n ≤ 1000000 → Entry (record { 0 = g }) (record { 0 = c }) z ≡ entry_line kind gs cs l
            unfolding entry_of
            entry-entry y =
                ap (Entry (record { 0 = g }) (record { 0 = c })) s
                ∙ (rw (← a, k, ← b, m, le-leb (nat_abs v) 1000000 (omega (arith, d ∙ ap nat_abs s))) at by-entry)

-- the fields by the kind
pub by_pattern : (l : List ℕ) {kind : Kind} {f : EntryFields} → f ≡ pair_fields l → kind ≡ Pattern → f ≡ fields_by kind l
unfolding fields_by
by_pattern l e k = e ∙ rw k

pub by_integer : (l : List ℕ) {kind : Kind} {f : EntryFields} → f ≡ entry_fields l → kind ≡ Integer → f ≡ fields_by kind l
unfolding fields_by
by_integer l e k = e ∙ rw k

-- g is in 1..gs, and c in 1..cs
pub record Bounded (gs : Gauge) (cs : Case) (g : Gauge) (c : Case) : Type 0 where
  pub gauge_low : 1 ≤ g.0
  pub gauge_high : g.0 ≤ gs.0
  pub case_low : 1 ≤ c.0
  pub case_high : c.0 ≤ cs.0

bounded : {gs g : Gauge} {cs c : Case} {a b : ℕ} → g.0 ≡ a → c.0 ≡ b → (1 ≤ a) × (a ≤ gs.0) → (1 ≤ b) × (b ≤ cs.0) → Bounded gs cs g c
bounded p q m n = record { gauge_low = omega arith; gauge_high = omega arith; case_low = omega arith; case_high = omega arith }

-- an entry that is taken is in range, and so is its reading, which is 0 in a file of pairs
pub record Taken (kind : Kind) (gs : Gauge) (cs : Case) (g : Gauge) (c : Case) (v : ℤ) : Type 0 where
  pub places : Bounded gs cs g c
  pub reach : nat_abs v ≤ 1000000
  pub unread : kind ≡ Pattern → v ≡ pos 0

-- the reading of a line of a file of pairs
pair_unread : (l : List ℕ) (a b : ℕ) (d : ℤ) → pair_fields l ≡ fields_of a b d → d ≡ pos 0
pair_unread l a b d e = go (fields l) e
  where
    go : (f : Fields) → pair_of f ≡ fields_of a b d → d ≡ pos 0
    go Blank e = clash cc
    go (Two g c) e = cc
    go (Three g c n) e = clash cc
    go Other e = clash cc

unread : (kind : Kind) (l : List ℕ) (a b : ℕ) (d : ℤ) → fields_by kind l ≡ fields_of a b d → kind ≡ Pattern → d ≡ pos 0
unfolding fields_by
unread Pattern l a b d e k = pair_unread l a b d e
unread Integer l a b d e k = clash cc

pub entry_taken : (kind : Kind) (gs : Gauge) (cs : Case) (l : List ℕ) (g : Gauge) (c : Case) (v : ℤ)
    → Entry g c v ≡ entry_line kind gs cs l → Taken kind gs cs g c v
unfolding entry_line entry_of
entry_taken kind gs cs l g c v e = long (ltb 1024 (length l)) e
  where
    inside : (a b : ℕ) (z : ℤ) (t u w : Bool) → in_range gs.0 a ≡ t → in_range cs.0 b ≡ u → in_reach z ≡ w → (kind ≡ Pattern → z ≡ pos 0)
        → Entry g c v ≡ cond (t && u) (cond w (Entry (record { 0 = a }) (record { 0 = b }) z) (bad_entry ReadingRange)) (bad_entry PairRange)
        → Taken kind gs cs g c v
    inside a b z true true true x y m n k =
        let p : g ≡ record { 0 = a } = cc in
        let q : c ≡ record { 0 = b } = cc in
        let s : v ≡ z = cc in
        record {
          places = bounded (ap (λ (x : Gauge). x.0) p) (ap (λ (x : Case). x.0) q) (range_is gs.0 a x) (range_is cs.0 b y);
          reach = omega (arith, leb-true (nat_abs z) 1000000 m, ap nat_abs s);
          unread = λ k. s ∙ n k;
        }
    inside a b z true true false x y m n k = clash cc
    inside a b z true false t x y m n k = clash cc
    inside a b z false u t x y m n k = clash cc

    kinds : (f : EntryFields) → fields_by kind l ≡ f → Entry g c v ≡ entry_of gs cs f → Taken kind gs cs g c v
    kinds no_fields p z = clash cc
    kinds (fields_of a b d) p z = inside a b d (in_range gs.0 a) (in_range cs.0 b) (in_reach d) refl refl refl (unread kind l a b d p) z
    kinds other_fields p z = clash cc

    long : (t : Bool) → Entry g c v ≡ cond t (bad_entry LineTooLong) (entry_of gs cs (fields_by kind l)) → Taken kind gs cs g c v
    long true z = clash cc
    long false z = kinds (fields_by kind l) refl z

-- a size that is taken is in range
pub size_range : (l : List ℕ) (g : Gauge) (c : Case) (n : ℕ) → Size g c n ≡ head_line l → Bounded (record { 0 = 64 }) (record { 0 = 64 }) g c
size_range l g c n e = long (ltb 1024 (length l)) e
  where
    sizes : (a b m : ℕ) (t u : Bool) → in_range 64 a ≡ t → in_range 64 b ≡ u
        → Size g c n ≡ cond (t && u) (Size (record { 0 = a }) (record { 0 = b }) m) (bad_head SizeRange) → Bounded (record { 0 = 64 }) (record { 0 = 64 }) g c
    sizes a b m true true x y z =
        let p : g ≡ record { 0 = a } = cc in
        let q : c ≡ record { 0 = b } = cc in
        bounded (ap (λ (x : Gauge). x.0) p) (ap (λ (x : Case). x.0) q) (range_is 64 a x) (range_is 64 b y)
    sizes a b m true false x y z = clash cc
    sizes a b m false u x y z = clash cc

    kinds : (k : Fields) → Size g c n ≡ size_of k → Bounded (record { 0 = 64 }) (record { 0 = 64 }) g c
    kinds Blank z = clash cc
    kinds (Two a b) z = clash cc
    kinds (Three a b m) z = sizes a b m (in_range 64 a) (in_range 64 b) refl refl z
    kinds Other z = clash cc

    comment : (t : Bool) → Size g c n ≡ cond t skip_head (size_of (fields l)) → Bounded (record { 0 = 64 }) (record { 0 = 64 }) g c
    comment true z = clash cc
    comment false z = kinds (fields l) z

    long : (t : Bool) → Size g c n ≡ cond t (bad_head LineTooLong) (cond (is_comment l) skip_head (size_of (fields l)))
        → Bounded (record { 0 = 64 }) (record { 0 = 64 }) g c
    long true z = clash cc
    long false z = comment (is_comment l) z
