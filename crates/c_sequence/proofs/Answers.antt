-- What the entries give is there for every input, and is one thing only (`sequence_exists`, `sequence_unique`); with slices no shorter than their layouts it is
-- the number and the words of the library's answer (`sequence_served`).
--
-- Pins, which nothing else cites: `sequence_exists`, `sequence_unique`, `sequence_served`.
--
-- Elsewhere: what holds of every entry, words/proofs/Answers; one answer of the library's own functions, sequence/proofs/Answers.
use mathlib.Core.Path.{◌≡◌}
use mathlib.Core.Logic.{◌⊎◌}
use mathlib.Core.List.{List}
use Prim.Native.Nat.{ℕ, ◌≤◌, ◌<◌}
use lib.ListN.{length}
use Rattle.refusals.specs.Answers.{Answer}
use Rattle.table.specs.declared.Table.{Table}
use Rattle.lists.specs.Lists.{Side}
use Rattle.sequence.specs.Sequencing.{Sequenced}
use Rattle.sequence.proofs.Answers.{sequenced_unique, sequenced_made}
use Rattle.words.specs.Layouts.{table_at, chain_at, numbers_at}
use Rattle.words.specs.Serving.{words_after}
use Rattle.words.proofs.Serving.{long_two, long_more}
use Rattle.words.proofs.Back.{rows_size}
use Rattle.words.proofs.Answers.{short_dec, or_dec, gives_is, gives_exists, gives_unique}
use Rattle.c_sequence.specs.Serving.{GivesSequence}

module _ (side : Table → Side) (t o s out : List ℕ) where
  sequence_dec : Dec ((length t < 66) ⊎ ((length o < 64) ⊎ ((length s < 65) ⊎ (length out < 64))))
  sequence_dec = or_dec (short_dec t 66) (or_dec (short_dec o 64) (or_dec (short_dec s 65) (short_dec out 64)))

  one : (x y : Answer (List ℕ)) → Sequenced side (table_at 0 t) (numbers_at 0 o) (chain_at 0 s) x → Sequenced side (table_at 0 t) (numbers_at 0 o) (chain_at 0 s) y
      → x ≡ y
  one = sequenced_unique side (table_at 0 t) (numbers_at 0 o) (chain_at 0 s) (rows_size 2 t) (rows_size 1 s)

  pub sequence_unique : (a b : List ℕ) (r q : ℕ) → GivesSequence side t o s out a r → GivesSequence side t o s out b q → (a ≡ b) × (r ≡ q)
  sequence_unique = gives_unique out sequence_dec one

  pub sequence_exists : (out' : List ℕ) × (r : ℕ) × GivesSequence side t o s out out' r
  sequence_exists =
      let (a, p) = sequenced_made side (table_at 0 t) (numbers_at 0 o) (chain_at 0 s) (rows_size 2 t) (rows_size 1 s) in
      gives_exists out sequence_dec a p

  pub sequence_served : 66 ≤ length t → 64 ≤ length o → 65 ≤ length s → 64 ≤ length out → (a : Answer (List ℕ))
      → Sequenced side (table_at 0 t) (numbers_at 0 o) (chain_at 0 s) a → (out' : List ℕ) (r : ℕ) → GivesSequence side t o s out out' r
      → (r ≡ a.refusal) × (out' ≡ words_after a.refusal a.value out)
  sequence_served lt lo ls lout = gives_is out one (long_more lt (long_more lo (long_two ls lout)))
