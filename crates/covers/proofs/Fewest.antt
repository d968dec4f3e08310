-- R-7 on a table: the search over its gauge list gives the first cover of least number (`fewest-ladders`); every
-- cover of that number has the same ladders as one that the search could meet (`least_arranged`); and every table has
-- a least number (`least_exists`).
use mathlib.Core.Path.{◌≡◌, sym, ap, ◌∙◌, subst}
use mathlib.Core.Logic.{◌⊎◌, inl, inr}
use mathlib.Core.Option.{some, some-injective}
use mathlib.Core.List.{List, Memᴰ}
use Prim.Native.Nat.{ℕ}
use native.Mathlib.Omega.{arith}
use lib.ListN.{length}
use Rattle.table.specs.Pairs.{Cases}
use Rattle.rules.proofs.Sequences.{before_irrefl, before_trans}
use Rattle.lists.specs.Lists.{SideList, base_key, Precedes}
use Rattle.lists.proofs.Listed.{chains_in_order, gauge_list}
use Rattle.lists.proofs.Plain.{base_keys}
use Rattle.conflicts.specs.Covers.{Together, Cover}
use Rattle.covers.specs.Covers.{LeastNumber}
use Rattle.pairs.specs.PairOrder.{holds, PairList, pairs}
use Rattle.covers.specs.Searching.{Outcome, ByRule, Arranged, Ahead}
use Rattle.covers.specs.Fewest.{fewest_ladders, FirstLeast}
use Rattle.pairs.proofs.Pairs.{holds_has, has_holds, pairs_listed}
use Rattle.covers.proofs.Rows.{some_cases}
use Rattle.covers.proofs.Covers.{least_unique, pair_held}
use Rattle.covers.proofs.Searching.{FirstArranged, Covered, From, ArrangedOf, arranged_covers, arrange, found_first, rule-number, rule-least}
use Rattle.covers.proofs.Searching.{fewest-rule, ahead_apart}

module _ (w : ℕ) (r : List ℕ) (h : Cases w r) where
  listed : PairList r (pairs w r)
  listed = pairs_listed w r h

  -- to hold every pair of the table, and every pair of its list
  held_covered : (xs : List (List ℕ)) → Together r (λ x. Memᴰ x xs) → Covered holds (pairs w r) xs
  held_covered xs all p m = let (x, i, q) = all p.0 p.1 ((listed.members p).0 m) in (x, i, has_holds x p q)

  covered_held : (xs : List (List ℕ)) → Covered holds (pairs w r) xs → Together r (λ x. Memᴰ x xs)
  covered_held xs all g c t = let (x, i, q) = all (g, c) ((listed.members (g, c)).1 t) in (x, i, holds_has x (g, c) t.gauge t.case q)

  -- a cover of the least number, arranged: the same ladders
  pub least_arranged : (k : ℕ) → LeastNumber r k → (xs : List (List ℕ)) → Cover r xs → length xs ≡ k
      → (d : List (List ℕ)) × Cover r d × (length d ≡ k) × Arranged holds (pairs w r) d × ((x : List ℕ) → Memᴰ x d → Memᴰ x xs) ×
      ((x : List ℕ) → Memᴰ x xs → Memᴰ x d)
  least_arranged k l xs a e = (d.0, cover, size, d.1.arranged, d.1.from, d.1.same (omega (arith, size)))
    where
      d : (d : List (List ℕ)) × ArrangedOf holds (pairs w r) xs d
      d = arrange holds (length xs) (pairs w r) xs (omega arith) (held_covered xs a.together)

      cover : Cover r d.0
      cover = record {
        maximal = λ x m. a.maximal x (d.1.from x m);
        together =
            covered_held d.0 (arranged_covers holds (pairs w r) d.0 d.1.arranged);
      }

      size : length d.0 ≡ k
      size = omega (arith, d.1.few, l.least d.0 cover)

  module _ (ls : List (List ℕ)) (gl : SideList r base_key ls) where
    from_list : (xs : List (List ℕ)) → Cover r xs → From holds ls xs
    from_list xs a x m = (gl.members x).1 (a.maximal x m)

    -- each pair is held by a ladder
    pub all_held : Covered holds (pairs w r) ls
    all_held = held_covered ls (λ g c t. let (x, m, q) = pair_held r g c t in (x, (gl.members x).1 m, q))

    -- what the rule gives is the first cover of least number
    rule-first-least : (k : ℕ) (c : List (List ℕ)) → ByRule holds ls (pairs w r) k c (fewest_ladders w r ls) → FirstLeast w r k c
    rule-first-least k c b = record {
      least = record {
        cover = c;
        covers = cover;
        number = number;
        least =
            λ xs x. rule-least holds Precedes ls gl.ascends (pairs w r) k c (fewest_ladders w r ls) b xs (from_list xs x) (held_covered xs x.together);
      };
      covers = cover;
      number = number;
      arranged = a.arranged;
      first = λ d x e v. a.first d (from_list d x) (omega arith) v;
    }
      where
        a : FirstArranged holds Precedes ls k (pairs w r) c
        a = found_first holds Precedes ls gl.ascends (pairs w r) k c b.found

        number : length c ≡ k
        number = rule-number holds Precedes ls gl.ascends (pairs w r) k c (fewest_ladders w r ls) b

        cover : Cover r c
        cover = record { maximal = λ x m. (gl.members x).0 (a.from x m); together = covered_held c (arranged_covers holds (pairs w r) c a.arranged) }

    pub fewest-ladders : (k : ℕ) × (c : List (List ℕ)) × ByRule holds ls (pairs w r) k c (fewest_ladders w r ls) × FirstLeast w r k c
    fewest-ladders =
        let b = fewest-rule holds Precedes ls gl.ascends (pairs w r) all_held in
        (b.0, b.1, b.2, rule-first-least b.0 b.1 b.2)

-- no other cover is the first of least number
pub first_least_unique : (w : ℕ) (r : List ℕ) (k j : ℕ) (c d : List (List ℕ)) → FirstLeast w r k c → FirstLeast w r j d → (k ≡ j) × (c ≡ d)
first_least_unique w r k j c d a b = (
  same,
  go (a.first d b.covers (b.number ∙ sym same) b.arranged)
      (b.first c a.covers (a.number ∙ same) a.arranged),
)
  where
    same : k ≡ j
    same = least_unique r k j a.least b.least

    go : (c ≡ d) ⊎ Ahead Precedes c d → (d ≡ c) ⊎ Ahead Precedes d c → c ≡ d
    go (inl e) y = e
    go (inr h) (inl e) = sym e
    go (inr h) (inr k) =
        absurd (ahead_apart Precedes (λ x. before_irrefl (base_key x)) (λ x y z p q. before_trans (base_key x) (base_key y) (base_key z) p q) c d h k)

-- the least number of a table, from what the rule gives
pub least_of : (w : ℕ) (r : List ℕ) → Cases w r → (n : ℕ) (c : List (List ℕ)) → fewest_ladders w r (chains_in_order r) ≡ record { tried = n; cover = some c }
    → LeastNumber r (length c)
least_of w r h n c e =
    let f = fewest-ladders w r h (chains_in_order r) (base_keys r (chains_in_order r) (gauge_list r)) in
    let same : f.1 ≡ c =
    some-injective f.1 c (sym (ap (λ (o : Outcome (List ℕ)). o.cover) f.2.outcome) ∙ ap (λ (o : Outcome (List ℕ)). o.cover) e) in
    subst (LeastNumber r) (sym f.3.number ∙ ap length same) f.3.least

-- every table has a least number
pub least_exists : (r : List ℕ) → (k : ℕ) × LeastNumber r k
least_exists r =
    let h = some_cases r in
    let f = fewest-ladders h.0 r h.1 (chains_in_order r) (base_keys r (chains_in_order r) (gauge_list r)) in
    (f.0, f.3.least)
