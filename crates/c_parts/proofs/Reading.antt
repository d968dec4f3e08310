-- What the words of a part give, on either side: run calls on them list the part (`lists_part_words`), and the words
-- that a part was put into read as the part (`part-back`, `part-read`).
--
-- Elsewhere: run calls by value, split/proofs/PartRuns.antt; a list of calls on words is one of calls by value,
-- c_runs/proofs/WordCalls.antt; what was put is read back, run_words/proofs/ReadingBack.antt.
use mathlib.Core.Path.{◌≡◌, sym, ap, ◌∙◌, subst}
use mathlib.Core.Logic.{◌⊎◌, inl, inr}
use mathlib.Core.List.{List}
use Prim.Native.Nat.{ℕ, ◌≤◌, ◌<◌}
use native.Mathlib.Decide.{dec_lt}
use native.Mathlib.Omega.{arith}
use lib.ListN.{length}
use lib.Seq.{sets as stored, length-sets}
use Rattle.refusals.specs.Answers.{Answer}
use Rattle.table.specs.declared.Table.{Table}
use Rattle.lists.specs.Lists.{Side}
use Rattle.runs.specs.Paused.{Value}
use Rattle.runs.proofs.Demands.{Starts}
use Rattle.split.specs.Entries.{no_part, PartAt}
use Rattle.split.proofs.Readings.{part_unique}
use Rattle.split.proofs.PartRuns.{lists_part}
use Rattle.words.specs.Serving.{Gives}
use Rattle.words.proofs.Answers.{gives_long, gives_zero}
use Rattle.words.proofs.Back.{rows_size}
use Rattle.run_words.specs.Values.{value_at, value_words}
use Rattle.run_words.proofs.ReadingBack.{Held, numbers_read, value-back}
use Rattle.c_runs.specs.Calls.{steps_read}
use Rattle.c_runs.proofs.Sides.{Startable}
use Rattle.c_runs.proofs.Returned.{paused-held}
use Rattle.c_runs.proofs.WordCalls.{word_calls}
use Rattle.c_parts.specs.Serving.{ListsPartWords, Part}
use Rattle.c_parts.proofs.Deciding.{Chosen, more, more-reached, chosen-part, chosen-or-refused}

module _ (side : Table → Side) (all : Startable side) (n : ℕ) where
  -- a value that is read has what both sides come with
  pub read_starts : (w : List ℕ) → Starts side (value_at n w)
  read_starts w = all (value_at n w).table (rows_size 3 w) (value_at n w).order (numbers_read 67 w).size

  -- ---- run calls on words
  pub lists_part_words : (w : List ℕ) → 199 ≤ length w → ListsPartWords side n w
  lists_part_words w l ok p h bs xs c =
      lists_part side (value_at n w) (read_starts w) ok p h bs (steps_read n xs) (word_calls side all n w l bs xs c).holds

  -- ---- what a part's words read as
  module _ (w : List ℕ) (g : ℕ) where
    abbrev v : Value
    v = value_at n w

    -- a part that is not refused is that of a candidate
    part-chosen : (a : Answer Value) → PartAt side v g a → a.refusal ≡ 0 → (c : Chosen side v g) × (a ≡ record { refusal = 0; value = more side v g c })
    part-chosen a p e = go (chosen-or-refused side v g (read_starts w))
      where
        go : Chosen side v g ⊎ ((m : ℕ) × ¬ (m ≡ 0) × PartAt side v g (no_part m))
            → (c : Chosen side v g) × (a ≡ record { refusal = 0; value = more side v g c })
        go (inl c) = (c, part_unique side v g a (record { refusal = 0; value = more side v g c }) p (chosen-part side v g c))
        go (inr (m, z, q)) = absurd (z (sym (ap (λ (x : Answer Value). x.refusal) (part_unique side v g a (no_part m) p q)) ∙ e))

    chosen-held : (c : Chosen side v g) → Held (more side v g c)
    chosen-held c =
        paused-held side all v.table v.order (rows_size 3 w) (numbers_read 67 w) c.passes v.omit _ (more-reached side v g (read_starts w) c)

    module _ (out out' : List ℕ) (r : ℕ) where
      abbrev pub Given : Type 0
      Given =
          Gives ((length w < 199) ⊎ (length out < 199)) (Part side v g) (λ (a : Answer Value). a.refusal) (λ (a : Answer Value). value_words n a.value)
          out out' r

      -- the words left: those of a run, and they read as the part of a candidate
      pub record Back : Type 0 where
        pub long : 199 ≤ length out'
        pub chosen : Chosen side v g
        pub is : value_at n out' ≡ more side v g chosen

      pub part-back : Given → r ≡ 0 → Back
      part-back given e =
          let (a, p, z, put) = gives_zero out out' r e given in
          let (c, is) = part-chosen a p.part z in
          let words : out' ≡ stored out 0 (value_words n (more side v g c)) = put ∙ ap (λ (x : Answer Value). stored out 0 (value_words n x.value)) is in
          let room : 199 ≤ length out = not_short (gives_long out out' r e given) in
          record {
            long = omega (arith, room, ap length words, length-sets out 0 (value_words n (more side v g c)));
            chosen = c;
            is = ap (value_at n) words ∙ value-back n (more side v g c) (chosen-held c) out room;
          }
        where
          not_short : ¬ ((length w < 199) ⊎ (length out < 199)) → 199 ≤ length out
          not_short q = at (dec_lt (length out) 199)
            where
              at : Dec (length out < 199) → 199 ≤ length out
              at (yes z) = absurd (q (inr z))
              at (no z) = omega arith

      pub part-read : Given → r ≡ 0 → PartAt side v g (record { refusal = 0; value = value_at n out' })
      part-read given e =
          let b = part-back given e in
          subst (λ (x : Value). PartAt side v g (record { refusal = 0; value = x })) (sym b.is) (chosen-part side v g b.chosen)
