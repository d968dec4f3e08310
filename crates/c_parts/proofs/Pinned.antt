-- The contracts of the entries pin what they give, on either side: for every slices there is a number with the words
-- left (`candidates-words-exist`, `part-words-exist`), and no other (`candidates-words-unique`, `part-words-unique`).
-- What a caller is promised of run calls, put to use, holds of calls that there are (`part-words-run`), and enough of
-- them close the part (`part-words-closed`). Parts from C split again: the words that a part was put into are those
-- of a part (`part_words_are`), of which the entries give the candidates (`candidates-words-again`) and the part of
-- each (`part-words-again`).
--
-- In order: the candidates; the part of one; run calls; splitting again.
use mathlib.Core.Path.{◌≡◌, refl, sym, ap, ◌∙◌, subst}
use mathlib.Core.Logic.{◌⊎◌, inl, inr}
use mathlib.Core.Bool.{true, false}
use mathlib.Core.List.{List, [], ◌∷◌, ◌++◌, map, Memᴰ}
use Prim.Native.Nat.{ℕ, suc, ◌≤◌, ◌<◌, min}
use lib.ListN.{length}
use lib.Seq.{sets as stored}
use Rattle.refusals.specs.Answers.{Answer}
use Rattle.table.specs.declared.Table.{Table}
use Rattle.table.specs.Tables.{padded}
use Rattle.rules.specs.Sequences.{All, factorial}
use Rattle.rules.specs.Machine.{Down, at}
use Rattle.rules.proofs.Ends.{Enough}
use Rattle.lists.specs.Lists.{Side}
use Rattle.runs.specs.Paused.{Value, paused, blank_value}
use Rattle.runs.specs.Calling.{value_refusal, PausedAt}
use Rattle.split.specs.Entries.{next_picks, no_part, PartAt}
use Rattle.split.specs.Listing.{is_closed, PartRun}
use Rattle.split.proofs.Answers.{splits_value}
use Rattle.split.proofs.Readings.{candidates_unique, part_unique}
use Rattle.split.proofs.PartRuns.{part_closed, lists_part}
use Rattle.split.proofs.Whole.{lists_whole}
use Rattle.words.proofs.Serving.{long_two}
use Rattle.words.proofs.Answers.{short_dec, or_dec, gives_is, gives_exists, gives_unique}
use Rattle.run_words.specs.Values.{value_at}
use Rattle.c_runs.specs.Calls.{Seen, WordCalls, steps_read}
use Rattle.c_runs.proofs.Sides.{Startable}
use Rattle.c_runs.proofs.WordCalls.{word_calls}
use Rattle.c_runs.proofs.Pinned.{Lent, lents, word_calls_exist}
use Rattle.c_parts.specs.Serving.{ListsPartWords, Candidates, GivesCandidates, Part, GivesPart}
use Rattle.c_parts.proofs.Deciding.{Chosen, found, found_at, candidates_exist, more, more-reached, chosen-part, chosen-or-refused}
use Rattle.c_parts.proofs.Reading.{read_starts, Back, part-back}
use Rattle.c_parts.proofs.Contracts.{candidates_of, part_of}

module _ (side : Table → Side) (n : ℕ) (w : List ℕ) where
  abbrev v : Value
  v = value_at n w

  -- ---- the candidates
  module _ (out : List ℕ) where
    abbrev short_numbers : Dec ((length w < 199) ⊎ (length out < 64))
    short_numbers = or_dec (short_dec w 199) (short_dec out 64)

    pub candidates-words-unique : (a b : List ℕ) (r s : ℕ) → GivesCandidates side n w out a r → GivesCandidates side n w out b s → (a ≡ b) × (r ≡ s)
    candidates-words-unique a b r s g f =
        gives_unique out short_numbers (λ x y p q. candidates_unique side v x y p.candidates q.candidates) a b r s g.gives f.gives

    pub candidates-words-exist : Startable side → (out' : List ℕ) × (r : ℕ) × GivesCandidates side n w out out' r
    candidates-words-exist all =
        let starts = read_starts side all n w in
        let (a, c) = candidates_exist side v starts in
        let promise : Candidates side v a =
        record { candidates = c; splits = splits_value side v starts; lists = lists_part side v starts; whole = lists_whole side v starts } in
        let (out', r, g) = gives_exists out short_numbers a promise in
        (out', r, candidates_of side all g)

  -- ---- the part of one
  module _ (k : ℕ) (out : List ℕ) where
    abbrev short_part : Dec ((length w < 199) ⊎ (length out < 199))
    short_part = or_dec (short_dec w 199) (short_dec out 199)

    pub part-words-unique : (a b : List ℕ) (r s : ℕ) → GivesPart side n w k out a r → GivesPart side n w k out b s → (a ≡ b) × (r ≡ s)
    part-words-unique a b r s g f =
        gives_unique out short_part (λ x y p q. part_unique side v k x y p.part q.part) a b r s g.gives f.gives

    -- the library's promise can be met: a part keeps the 64 rows and numbers that were read, and what is beside a
    -- refusal has as many
    promised : Startable side → (a : Answer Value) × Part side v k a
    promised all = go (chosen-or-refused side v k (read_starts side all n w))
      where
        go : Chosen side v k ⊎ ((m : ℕ) × ¬ (m ≡ 0) × PartAt side v k (no_part m)) → (a : Answer Value) × Part side v k a
        go (inl c) = (
          record { refusal = 0; value = more side v k c },
          record { part = chosen-part side v k c; lists = lists_part side (more side v k c) (read_starts side all n w) },
        )
        go (inr (m, z, p)) = (
          no_part m,
          record { part = p; lists = lists_part side blank_value (all blank_value.table refl blank_value.order refl) },
        )

    pub part-words-exist : Startable side → (out' : List ℕ) × (r : ℕ) × GivesPart side n w k out out' r
    part-words-exist all =
        let (a, p) = promised all in
        let (out', r, g) = gives_exists out short_part a p in
        (out', r, part_of side all g)

  -- ---- run calls
  module _ (all : Startable side) (ok : value_refusal side v ≡ 0) (p : List ℕ) (h : PausedAt side v (at p Down)) (bs : List ℕ) where
    pub part-words-run : ListsPartWords side n w → (outs : List (List ℕ)) → Lent bs outs
        → (xs : List Seen) × WordCalls side n w bs xs × PartRun side v p (steps_read n xs) × (lents xs ≡ outs)
    part-words-run lists outs l =
        let (xs, c, e) = word_calls_exist side n all w bs outs l in
        (xs, c, lists ok p h bs xs c, e)

    -- with enough moves a call, and more calls than (min G L)!, the part is closed
    pub part-words-closed : 199 ≤ length w → v.omit ≡ false → (xs : List Seen) → WordCalls side n w bs xs → All (Enough (side v.table).count) bs
        → factorial (min v.table.gauges v.table.cases) < length bs → is_closed v (steps_read n xs) ≡ true
    part-words-closed long e xs c enough more =
        part_closed side v (read_starts side all n w ok) p h e bs (steps_read n xs) (word_calls side all n w long bs xs c).holds enough more

-- ---- splitting again
-- the words w are those of the part with the picks p
pub record PartWords (side : Table → Side) (n : ℕ) (w p : List ℕ) : Type 0 where
  pub long : 199 ≤ length w
  pub passes : value_refusal side (value_at n w) ≡ 0
  pub stands : PausedAt side (value_at n w) (at p Down)

module _ (side : Table → Side) (all : Startable side) (n : ℕ) (w : List ℕ) where
  back_words : (k : ℕ) (out out' : List ℕ) (r : ℕ) (b : Back side all n w k out out' r)
      → PartWords side n out' (b.chosen.picks ++ (b.chosen.pick ∷ []))
  back_words k out out' r b =
      let c = b.chosen in record {
        long = b.long;
        passes = ap (value_refusal side) b.is ∙ c.passes;
        stands = subst (λ (x : Value). PausedAt side x (at (c.picks ++ (c.pick ∷ [])) Down)) (sym b.is)
            (record { reached = more-reached side (value_at n w) k (read_starts side all n w) c; stands = refl });
      }

  -- what the entry left: the words of a part, whose picks are those of w and a candidate more, the one with the
  -- number k
  pub part_words_are : (k : ℕ) (out out' : List ℕ) (r : ℕ) → GivesPart side n w k out out' r → r ≡ 0
      → (p : List ℕ) × PausedAt side (value_at n w) (at p Down) × (i : ℕ) × Memᴰ i (next_picks side (value_at n w) p) × (k ≡ suc i)
      × PartWords side n out' (p ++ (i ∷ []))
  part_words_are k out out' r g e =
      let b = part-back side all n w k out out' r g.gives e in
      let c = b.chosen in
      (c.picks, c.stands, c.pick, c.candidate, c.named, back_words k out out' r b)

  -- the words of a part are taken
  module _ (p : List ℕ) (h : PartWords side n w p) where
    pub candidates-words-again : (out out' : List ℕ) (r : ℕ) → 64 ≤ length out → GivesCandidates side n w out out' r
        → (r ≡ 0) × (out' ≡ stored out 0 (padded (map suc (next_picks side (value_at n w) p))))
    candidates-words-again out out' r l g =
        let starts = read_starts side all n w in
        gives_is out (λ x y a b. candidates_unique side (value_at n w) x y a.candidates b.candidates) (long_two h.long l)
        (found side (value_at n w) p)
        (record {
          candidates = found_at side (value_at n w) h.passes p h.stands;
          splits = splits_value side (value_at n w) starts;
          lists = lists_part side (value_at n w) starts;
          whole = lists_whole side (value_at n w) starts;
        })
        out' r g.gives

    pub part-words-again : (i : ℕ) → Memᴰ i (next_picks side (value_at n w) p) → (out out' : List ℕ) (r : ℕ) → 199 ≤ length out
        → GivesPart side n w (suc i) out out' r
        → (r ≡ 0) × (value_at n out' ≡ paused (value_at n w).table (value_at n w).order (value_at n w).omit (at (p ++ (i ∷ [])) Down))
        × PartWords side n out' (p ++ (i ∷ []))
    part-words-again i m out out' r l g =
        let b = part-back side all n w (suc i) out out' r g.gives zero in
        (zero, is, back_words (suc i) out out' r (record { long = b.long; chosen = c; is = is }))
      where
        c : Chosen side (value_at n w) (suc i)
        c = record { passes = h.passes; picks = p; stands = h.stands; pick = i; candidate = m; named = refl }

        u : Value
        u = paused (value_at n w).table (value_at n w).order (value_at n w).omit (at (p ++ (i ∷ [])) Down)

        zero : r ≡ 0
        zero =
            (gives_is out (λ x y a b. part_unique side (value_at n w) (suc i) x y a.part b.part) (long_two h.long l)
            (record { refusal = 0; value = u })
            (record { part = chosen-part side (value_at n w) (suc i) c; lists = lists_part side u (read_starts side all n w) })
            out' r g.gives).0

        is : value_at n out' ≡ u
        is =
            ap (λ (a : Answer Value). a.value)
            (part_unique side (value_at n w) (suc i) (record { refusal = 0; value = value_at n out' }) (record { refusal = 0; value = u }) (g.reads zero)
            (chosen-part side (value_at n w) (suc i) c))
