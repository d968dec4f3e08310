-- Whether a paused value is a part is decided (`part_decided`), on either side: so there are candidates for every value (`candidates_exist`). And whether a
-- number is a candidate of it: so for every value and number there is the part of a candidate (`Chosen`, `chosen-part`) or a refusal (`chosen-or-refused`).
-- That there are no others is `candidates_unique` and `part_unique` in split/proofs/Readings.
--
-- In order: the part that a value is; its candidates; the candidate that a number is, and its part.
--
-- Elsewhere: whether a value is the paused value of a reached state, runs/proofs/Deciding.antt.
use mathlib.Core.Path.{◌≡◌, refl, sym, ap, ◌∙◌, subst}
use mathlib.Core.Logic.{◌⊎◌, inl, inr}
use mathlib.Core.Bool.{Bool, true, false}
use mathlib.Core.List.{List, [], ◌∷◌, ◌++◌, map, Memᴰ}
use Prim.Native.Nat.{ℕ, zero, suc}
use native.Mathlib.Decide.{ℕ_discrete}
use native.Mathlib.Omega.{arith}
use Rattle.basics.proofs.Clash.{clash}
use Rattle.refusals.specs.Answers.{Answer}
use Rattle.table.specs.declared.Table.{Table}
use Rattle.table.specs.Tables.{padded}
use Rattle.rules.specs.Machine.{Phase, Down, Handed, Back, Ended, State, at}
use Rattle.lists.specs.Preferred.{candidate_by}
use Rattle.lists.specs.Lists.{Side}
use Rattle.lists.specs.OnTable.{ReachedOn}
use Rattle.parts.proofs.Places.{reached_at}
use Rattle.parts.proofs.Splitting.{candidate-reached}
use Rattle.runs.specs.Paused.{Value, paused}
use Rattle.runs.specs.Calling.{held, value_refusal, PausedAt}
use Rattle.runs.proofs.Answered.{paused_state}
use Rattle.runs.proofs.Deciding.{paused_decided}
use Rattle.runs.proofs.Demands.{Started, Starts}
use Rattle.split.specs.Entries.{next_picks, no_picks, no_part, CandidatesAt, PartAt}
use Rattle.split.proofs.Trying.{candidate_mem, mem_candidate}
use Rattle.split.proofs.Answers.{candidates_refused, candidates_made, part-refused, part_made, no_part_made}

module _ (side : Table → Side) (v : Value) where
  abbrev t : Table
  t = v.table

  abbrev Stands : List ℕ → Type 0
  Stands p = PausedAt side v (at p Down)

  abbrev Nowhere : Type 0
  Nowhere = (p : List ℕ) → Stands p → ⊥

  -- ---- the part that a value is
  part_decided : Started side t v.order → ((p : List ℕ) × Stands p) ⊎ Nowhere
  part_decided g = go (paused_decided side v g)
    where
      other : (f : Phase) (p : List ℕ) → PausedAt side v (at p f) → (f ≡ Down → ⊥) → Nowhere
      other f p h n q k =
          n (ap (λ (x : State). x.phase) (paused_state t v.order v.omit (at p f) (at q Down) (sym h.stands ∙ k.stands)))

      by : (f : Phase) (p : List ℕ) → PausedAt side v (at p f) → ((q : List ℕ) × Stands q) ⊎ Nowhere
      by Down p h = inl (p, h)
      by Handed p h = inr (other Handed p h (λ e. clash cc))
      by (Back i) p h = inr (other (Back i) p h (λ e. clash cc))
      by Ended p h = inr (other Ended p h (λ e. clash cc))

      go : ((s : State) × PausedAt side v s) ⊎ ((s : State) → PausedAt side v s → ⊥) → ((p : List ℕ) × Stands p) ⊎ Nowhere
      go (inl (s, h)) = by s.phase s.picks h
      go (inr none) = inr (λ p h. none (at p Down) h)

  -- ---- its candidates
  abbrev pub found : List ℕ → Answer (List ℕ)
  found p = record { refusal = 0; value = padded (map suc (next_picks side v p)) }

  pub found_at : value_refusal side v ≡ 0 → (p : List ℕ) → Stands p → CandidatesAt side v (found p)
  found_at z p h =
      subst (λ (x : Value). CandidatesAt side x (found p)) (sym h.stands) (candidates_made side t v.order v.omit z p h.reached)

  pub candidates_exist : Starts side v → (a : Answer (List ℕ)) × CandidatesAt side v a
  candidates_exist starts = go (ℕ_discrete (value_refusal side v) 0)
    where
      by : value_refusal side v ≡ 0 → ((p : List ℕ) × Stands p) ⊎ Nowhere → (a : Answer (List ℕ)) × CandidatesAt side v a
      by z (inl (p, h)) = (found p, found_at z p h)
      by z (inr none) = (
        no_picks 15,
        candidates_refused side v 15 (omega arith)
            (record { table = λ l. absurd (omega (arith, z)); value = λ _ _. refl; stands = λ _ p h. absurd (none p h) }),
      )

      go : Dec (value_refusal side v ≡ 0) → (a : Answer (List ℕ)) × CandidatesAt side v a
      go (yes z) = by z (part_decided (starts z))
      go (no z) = (
        no_picks (value_refusal side v),
        candidates_refused side v (value_refusal side v) (omega (arith, z))
            (record { table = λ _. refl; value = λ y. absurd (z y); stands = λ y. absurd (z y) }),
      )

  -- ---- the candidate that a number is
  module _ (g : ℕ) where
    -- g is the number of a candidate after the picks of v
    pub record Chosen : Type 0 where
      pub passes : value_refusal side v ≡ 0
      pub picks : List ℕ
      pub stands : Stands picks
      pub pick : ℕ
      pub candidate : Memᴰ pick (next_picks side v picks)
      pub named : g ≡ suc pick

    -- the value of its part
    abbrev pub more : Chosen → Value
    more c = paused t v.order v.omit (at (c.picks ++ (c.pick ∷ [])) Down)

    pub more-reached : Starts side v → (c : Chosen) → ReachedOn (side t) (held side v) (at (c.picks ++ (c.pick ∷ [])) Down)
    more-reached starts c =
        let s = starts c.passes in
        candidate-reached t (side t) s.fair (held side v) s.arranged c.picks
        (reached_at (side t) (held side v) s.fair.counted s.arranged c.picks c.stands.reached) c.pick c.candidate

    pub chosen-part : (c : Chosen) → PartAt side v g (record { refusal = 0; value = more c })
    chosen-part c =
        let made = part_made side t v.order v.omit c.passes c.picks c.stands.reached c.pick c.candidate in
        subst (λ (k : ℕ). PartAt side v k (record { refusal = 0; value = more c })) (sym c.named)
        (subst (λ (x : Value). PartAt side x (suc c.pick) (record { refusal = 0; value = more c })) (sym c.stands.stands) made)

    pub chosen-or-refused : Starts side v → Chosen ⊎ ((m : ℕ) × ¬ (m ≡ 0) × PartAt side v g (no_part m))
    chosen-or-refused starts = go (ℕ_discrete (value_refusal side v) 0)
      where
        Known : Type 0
        Known = Chosen ⊎ ((m : ℕ) × ¬ (m ≡ 0) × PartAt side v g (no_part m))

        no-pick : value_refusal side v ≡ 0 → (p : List ℕ) → Stands p → ((i : ℕ) → Memᴰ i (next_picks side v p) → g ≡ suc i → ⊥) → Known
        no-pick z p h n =
            inr (
              15,
              λ e. omega (arith, e),
              subst (λ (x : Value). PartAt side x g (no_part 15)) (sym h.stands)
                  (no_part_made side t v.order v.omit z p h.reached g n),
            )

        number : value_refusal side v ≡ 0 → (p : List ℕ) → Stands p → (k : ℕ) → g ≡ k → Known
        number z p h zero e = no-pick z p h (λ i m d. omega (arith, e, d))
        number z p h (suc i) e = test (candidate_by (held side v) (side t).rows p i) refl
          where
            test : (b : Bool) → candidate_by (held side v) (side t).rows p i ≡ b → Known
            test true d =
                let s = starts z in
                inl (record {
                  passes = z;
                  picks = p;
                  stands = h;
                  pick = i;
                  candidate = candidate_mem (side t).count (held side v) (side t).rows p s.arranged s.fair.counted i d;
                  named = e;
                })
            test false d =
                no-pick z p h (λ j m f.
                let ij : i ≡ j = omega (arith, e, f) in
                let b : true ≡ false =
                sym (mem_candidate (held side v) (side t).rows p j m) ∙ ap (candidate_by (held side v) (side t).rows p) (sym ij) ∙ d in
                clash cc)

        by : value_refusal side v ≡ 0 → ((p : List ℕ) × Stands p) ⊎ Nowhere → Known
        by z (inl (p, h)) = number z p h g refl
        by z (inr none) =
            inr (
              15,
              λ e. omega (arith, e),
              part-refused side v g 15 (omega arith)
                  (record { table = λ l. absurd (omega (arith, z)); value = λ _ _. refl; stands = λ _ p h. absurd (none p h) }),
            )

        go : Dec (value_refusal side v ≡ 0) → Known
        go (yes z) = by z (part_decided (starts z))
        go (no z) =
            inr (
              value_refusal side v,
              z,
              part-refused side v g (value_refusal side v) (omega (arith, z))
                  (record { table = λ _. refl; value = λ y. absurd (z y); stands = λ y. absurd (z y) }),
            )
