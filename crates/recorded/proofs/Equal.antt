-- Comparing two tests. In order: two tests by their parts; equal tests, by 02's words, are the same value where they are legal (`equal_value`); the answers of
-- `equal_tests`, one law for each; one answer (`compared_unique`).
--
-- Elsewhere: what follows for equal tests, Equivalence.antt; what follows for their files, crate `round_trip`.
use Rattle.std.specs.Prelude.{Result, Ok, Err}
use mathlib.Core.Path.{◌≡◌, refl, sym, ap, ap₂, ◌∙◌, subst}
use mathlib.Core.Bool.{Bool, true, false}
use mathlib.Core.Logic.{◌↔◌, ◌⊎◌, inl, inr}
use Prim.Native.Nat.{ℕ, suc, ◌+◌, ◌-◌, ◌*◌, ◌/◌, ◌%◌}
use native.Mathlib.Decide.{ℕ_discrete}
use native.Mathlib.Omega.{arith}
use lib.Dec.{T}
use lib.IntN.{pos}
use lib.ListN.{length}
use lib.Seq.{ext_get_or}
use borrow.Author.Tests.{ne_eqb}
use Rattle.sets.specs.Sets.{bit}
use Rattle.table.specs.Pairs.{row}
use Rattle.table.proofs.Places.{has_place, place_has, same_pairs_rows}
use Rattle.refusals.specs.Answers.{number, given}
use Rattle.refusals.specs.declared.Refusal.{Refusal}
use Rattle.refusals.proofs.Answering.{number_pos, answered_injective}
use Rattle.recorded.specs.Tests.{reading, LegalTest, test_refusal}
use Rattle.recorded.specs.Equality.{EqualTests, two_refusal, ComparedAs}
use Rattle.recorded.specs.declared.Test.{Test}
use Rattle.recorded.proofs.Legality.{test_legal, zero-or-entry}

-- ---- two tests by their parts
test_is : (a b : Test) → a.kind ≡ b.kind → a.gauges ≡ b.gauges → a.cases ≡ b.cases → a.entries ≡ b.entries → a.readings ≡ b.readings → a ≡ b
test_is a b k g c e v = λ i. record { kind = k i; gauges = g i; cases = c i; entries = e i; readings = v i }

-- ---- equal tests
pub same_equal : (a b : Test) → a ≡ b → EqualTests a b
same_equal a b e = subst (EqualTests a) e (record {
  kind = refl;
  gauges = refl;
  cases = refl;
  entries = λ g c. (λ h. h, λ h. h);
  readings = λ g c h. refl;
})

-- legal tests have a reading at an entry alone, so equal ones are the same value
module _ (a b : Test) (la : LegalTest a) (lb : LegalTest b) where
  module _ (e : EqualTests a b) where
    at_entry : (p : ℕ) → T (bit (row a.entries (p / 64)) (p % 64)) → reading a.readings p ≡ reading b.readings p
    at_entry p t =
        let s : (suc (p / 64) - 1) * 64 + (suc (p % 64) - 1) ≡ p = omega arith in
        ap (reading a.readings) (sym s) ∙ e.readings (suc (p / 64)) (suc (p % 64)) (place_has a.entries (p / 64) (p % 64) t)
        ∙ ap (reading b.readings) s

    at_place : (p : ℕ) → (reading a.readings p ≡ pos 0) ⊎ T (bit (row a.entries (p / 64)) (p % 64))
        → (reading b.readings p ≡ pos 0) ⊎ T (bit (row b.entries (p / 64)) (p % 64)) → reading a.readings p ≡ reading b.readings p
    at_place p (inl x) (inl y) = x ∙ sym y
    at_place p (inr x) y = at_entry p x
    at_place p (inl x) (inr y) =
        at_entry p (has_place a.entries (p / 64) (p % 64)
        ((e.entries (suc (p / 64)) (suc (p % 64))).1 (place_has b.entries (p / 64) (p % 64) y)))

    pub equal-same : a ≡ b
    equal-same =
        test_is a b e.kind e.gauges e.cases
        (same_pairs_rows a.entries b.entries (la.entries_legal.rows_length ∙ sym lb.entries_legal.rows_length) e.entries)
        (ext_get_or (pos 0) a.readings b.readings (la.readings_length ∙ sym lb.readings_length) (λ p h.
        at_place p (zero-or-entry a la p (omega (arith, la.readings_length))) (zero-or-entry b lb p (omega (arith, la.readings_length)))))

  pub equal_value : EqualTests a b ↔ (a ≡ b)
  equal_value = (equal-same, same_equal a b)

-- ---- the answers
module _ (a b : Test) where
  two_first : ¬ (test_refusal a ≡ 0) → test_refusal a ≡ two_refusal a b
  unfolding two_refusal
  two_first n = rw (ne_eqb (test_refusal a) 0 n)

  two_second : test_refusal a ≡ 0 → test_refusal b ≡ two_refusal a b
  unfolding two_refusal
  two_second z = rw z

  no_answer : (why : Refusal) (r : Result Bool Refusal) → r ≡ Err why → number why ≡ two_refusal a b → ComparedAs a b r
  no_answer why r e n =
      subst (ComparedAs a b) (sym e) (record { refusal = n; refused = λ x. refl; same = λ z. absurd (omega (arith, number_pos why)) })

  pub first_refused : (why : Refusal) → number why ≡ test_refusal a → (r : Result Bool Refusal) → r ≡ Err why → ComparedAs a b r
  first_refused why n r e = no_answer why r e (n ∙ two_first (λ z. omega (arith, number_pos why)))

  module _ (z : test_refusal a ≡ 0) where
    pub second-refused : (why : Refusal) → number why ≡ test_refusal b → (r : Result Bool Refusal) → r ≡ Err why → ComparedAs a b r
    second-refused why n r e = no_answer why r e (n ∙ two_second z)

    module _ (y : test_refusal b ≡ 0) (la : length a.entries ≡ 64) (ra : length a.readings ≡ 4096) (lb : length b.entries ≡ 64)
        (rb : length b.readings ≡ 4096) where
      pub both-pass : (t : Bool) → (t ≡ true) ↔ (a ≡ b) → ComparedAs a b (Ok t)
      both-pass t i =
          let n : two_refusal a b ≡ 0 = sym (two_second z) ∙ y in
          let v : EqualTests a b ↔ (a ≡ b) = equal_value a b (test_legal a la ra z) (test_legal b lb rb y) in record {
            refusal = sym n;
            refused = λ m. absurd (m n);
            same = λ m. (λ x. v.1 (i.0 x), λ x. i.1 (v.0 x));
          }

-- ---- one answer
same_tests : (x y : Bool) → (x ≡ true → y ≡ true) → (y ≡ true → x ≡ true) → x ≡ y
same_tests true y f g = sym (f refl)
same_tests false true f g = g refl
same_tests false false f g = refl

pub compared_unique : (a b : Test) (r s : Result Bool Refusal) → ComparedAs a b r → ComparedAs a b s → r ≡ s
compared_unique a b r s p q = answered_injective false r s (ap₂ (λ (n : ℕ) (t : Bool). record { refusal = n; value = t }) (p.refusal ∙ sym q.refusal) (go (ℕ_discrete (two_refusal a b) 0)))
  where
    go : Dec (two_refusal a b ≡ 0) → given false r ≡ given false s
    go (yes z) = same_tests (given false r) (given false s) (λ x. (q.same z).1 ((p.same z).0 x)) (λ x. (p.same z).1 ((q.same z).0 x))
    go (no n) = p.refused n ∙ sym (q.refused n)
