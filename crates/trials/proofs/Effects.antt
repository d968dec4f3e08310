-- What a flip does to a maximal chain. In order: over a table of its shape the judge's answer tells the effect (`effect-yes`, `effect-no`,
-- `effect-refused`); every chain has an effect (`effect_some`) and one alone (`effect_one`); a chain that passed the checks of the old table has the shape
-- of the new one (`shaped_of`).
use Rattle.std.specs.Prelude.{Result, Ok, Err}
use mathlib.Core.Path.{◌≡◌, refl, sym, ap, ◌∙◌, subst, subst₂}
use mathlib.Core.Bool.{Bool, true, false}
use mathlib.Core.List.{List, [], ◌∷◌}
use Prim.Native.Nat.{ℕ, suc, ◌<◌}
use native.Mathlib.Decide.{ℕ_discrete, dec_lt}
use native.Mathlib.Omega.{arith}
use lib.ListN.{length}
use lib.Seq.{get_or-take}
use borrow.Author.Tests.{eq-eqb}
use Rattle.sets.specs.Sets.{◌⊆◌}
use Rattle.sets.proofs.Order.{is_subset_lem, sub_zero, zero_sub}
use Rattle.refusals.specs.declared.Refusal.{Refusal}
use Rattle.refusals.proofs.Answering.{number_pos}
use Rattle.table.specs.declared.Table.{Table}
use Rattle.table.specs.declared.Chain.{Chain}
use Rattle.table.specs.Pairs.{row, Within}
use Rattle.table.specs.Chains.{IsMaximal}
use Rattle.table.specs.Tables.{table_rows, chain_rows, rows_within, chain_refusal}
use Rattle.table.proofs.Places.{within_sub}
use Rattle.table.proofs.Legality.{legal_passes, chain_passes, ChainFacts, chain_facts, chain_within}
use Rattle.judge.specs.Judging.{judgement, Judged}
use Rattle.judge.proofs.Verdicts.{judged_dec, maximal_dec}
use Rattle.trials.specs.Trials.{Flipped, HasEffect}
use Rattle.trials.specs.private.Steps.{Placed, Passed, Shaped}
use Rattle.trials.specs.declared.Effect.{Effect}
use Rattle.trials.specs.declared.Effect.TheVariants.{StillMaximal, OnlyChain, NotWithin}
use Rattle.trials.proofs.Flips.{flipped_legal}

-- the check of 13 passes where each row is within
rows_within_lem : (r s : List ℕ) → ((i : ℕ) → row s i ⊆ row r i) → rows_within r s ≡ true
unfolding rows_within
rows_within_lem r [] f = refl
rows_within_lem [] (b ∷ s) f = rw (eq-eqb b 0 (sub_zero b (f 0))) (rows_within_lem [] s (λ i. f (suc i)))
rows_within_lem (a ∷ r) (b ∷ s) f = rw (is_subset_lem b a (f 0)) (rows_within_lem r s (λ i. f (suc i)))

-- ---- the effect, by the judge's answer over a table of the chain's shape
module _ (u : Table) (s : Chain) (h : Shaped u s) (n : length u.rows ≡ 64) (m : length s.rows ≡ 64) where
  within_passes : Within (table_rows u) (chain_rows s) → chain_refusal u s ≡ 0
  within_passes w = sym (chain_passes u s true h.passes h.count (sym (rows_within_lem u.rows s.rows inside)) refl)
    where
      inside : (i : ℕ) → row s.rows i ⊆ row u.rows i
      inside i = go (dec_lt i u.gauges)
        where
          go : Dec (i < u.gauges) → row s.rows i ⊆ row u.rows i
          go (yes l) =
              subst₂ (λ (a b : ℕ). a ⊆ b) (get_or-take s.gauges s.rows i 0 (omega (arith, h.count))) (get_or-take u.gauges u.rows i 0 l)
              (within_sub (table_rows u) (chain_rows s) w i)
          go (no l) = subst (λ (a : ℕ). a ⊆ row u.rows i) (sym (h.rest i (omega arith))) (zero_sub (row u.rows i))

  module _ (j : Result Bool Refusal) (d : Judged (chain_refusal u s) (IsMaximal (table_rows u) (chain_rows s)) j) where
    effect-yes : j ≡ Ok true → HasEffect StillMaximal u s
    effect-yes e = d.yes (ap (λ (x : Result Bool Refusal). (judgement x).value) e)

    pub effect-no : j ≡ Ok false → HasEffect OnlyChain u s
    effect-no e =
        let z : chain_refusal u s ≡ 0 = sym d.refusal ∙ ap (λ (x : Result Bool Refusal). (judgement x).refusal) e in
        (chain_within u s (chain_facts u s n z) m, h.chain, d.no z (ap (λ (x : Result Bool Refusal). (judgement x).value) e))

    pub effect-refused : (x : Refusal) → j ≡ Err x → HasEffect NotWithin u s
    effect-refused x e w = omega (arith, number_pos x, sym (ap (λ (y : Result Bool Refusal). (judgement y).refusal) e) ∙ d.refusal, within_passes w)

-- ---- the three effects leave none out, and exclude each other
pub effect_some : (u : Table) (s : Chain) → Shaped u s → length u.rows ≡ 64 → length s.rows ≡ 64 → (e : Effect) × HasEffect e u s
effect_some u s h n m = go (ℕ_discrete (chain_refusal u s) 0)
  where
    told : (j : Result Bool Refusal) → Judged (chain_refusal u s) (IsMaximal (table_rows u) (chain_rows s)) j → (e : Effect) × HasEffect e u s
    told (Ok true) d = (StillMaximal, effect-yes u s h n m (Ok true) d refl)
    told (Ok false) d = (OnlyChain, effect-no u s h n m (Ok false) d refl)
    told (Err x) d = (NotWithin, effect-refused u s h n m (Err x) d x refl)

    go : Dec (chain_refusal u s ≡ 0) → (e : Effect) × HasEffect e u s
    go (yes z) = let (j, d) = judged_dec (chain_refusal u s) z (maximal_dec u s z n m) in told j d
    go (no z) = (NotWithin, λ w. z (within_passes u s h n m w))

pub effect_one : (e f : Effect) (u : Table) (s : Chain) → HasEffect e u s → HasEffect f u s → e ≡ f
effect_one StillMaximal StillMaximal u s a b = refl
effect_one StillMaximal OnlyChain u s a b = absurd (b.2 a)
effect_one StillMaximal NotWithin u s a b = absurd (b a.within)
effect_one OnlyChain StillMaximal u s a b = absurd (a.2 b)
effect_one OnlyChain OnlyChain u s a b = refl
effect_one OnlyChain NotWithin u s a b = absurd (b a.0)
effect_one NotWithin StillMaximal u s a b = absurd (a b.within)
effect_one NotWithin OnlyChain u s a b = absurd (a b.0)
effect_one NotWithin NotWithin u s a b = refl

-- ---- over the new table
pub shaped_of : (t : Table) (g c : ℕ) → Placed t g c → (u : Table) → Flipped t g c u → (s : Chain) → Passed t s → Shaped u s
shaped_of t g c p u f s k =
    let q : ChainFacts t s = chain_facts t s p.legal.rows_length k.passes in record {
      passes = legal_passes u (flipped_legal t g c p u f);
      count = q.count ∙ sym f.gauges;
      rest =
          λ i l. sub_zero (row s.rows i) (subst (λ (x : ℕ). row s.rows i ⊆ x) (p.legal.rows_rest i (omega (arith, f.gauges))) (q.inside i));
      chain = k.chain;
    }
