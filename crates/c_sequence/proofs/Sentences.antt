-- What a reader finds in the promise of the entries, sentence by sentence: 100 for a slice that is too short, and every word as it was (`sequence_short`); a
-- refusal by its number, and every word as it was (`sequence-refused`); else 0, and the numbers of the pick sequence over the front (`sequence-given`).
--
-- Elsewhere: the refusals one by one, and the sequence, sequence/proofs/Sentences.
use mathlib.Core.Path.{◌≡◌, ap, ◌∙◌}
use mathlib.Core.Logic.{◌⊎◌}
use mathlib.Core.List.{List, map}
use Prim.Native.Nat.{ℕ, suc, ◌<◌}
use lib.ListN.{length}
use lib.Seq.{sets as stored}
use Rattle.table.specs.declared.Table.{Table}
use Rattle.table.specs.Chains.{IsMaximal}
use Rattle.table.specs.Tables.{table_rows, chain_rows, chain_refusal, padded}
use Rattle.lists.specs.Preferred.{pick_seq_by}
use Rattle.lists.specs.Lists.{Side}
use Rattle.preference.specs.Preferences.{preferred_refusal, order_of}
use Rattle.sequence.proofs.Sentences.{sequenced-ladder}
use Rattle.words.specs.Layouts.{table_at, chain_at, numbers_at}
use Rattle.words.specs.Serving.{words_after}
use Rattle.words.proofs.Serving.{left_refused}
use Rattle.c_sequence.specs.Serving.{GivesSequence}

module _ (side : Table → Side) (t o s out out' : List ℕ) (r : ℕ) (g : GivesSequence side t o s out out' r) where
  pub sequence_short : (length t < 66) ⊎ ((length o < 64) ⊎ ((length s < 65) ⊎ (length out < 64))) → (r ≡ 100) × (out' ≡ out)
  sequence_short h = g.short h

  module _ (long : ¬ ((length t < 66) ⊎ ((length o < 64) ⊎ ((length s < 65) ⊎ (length out < 64))))) where
    pub sequence-refused : ¬ (r ≡ 0) → out' ≡ out
    sequence-refused z = let v = g.served long in v.leaves ∙ left_refused r v.answer.value out z

    pub sequence-given : preferred_refusal (table_at 0 t) (side (table_at 0 t)).count (numbers_at 0 o) ≡ 0 → chain_refusal (table_at 0 t) (chain_at 0 s) ≡ 0
        → IsMaximal (table_rows (table_at 0 t)) (chain_rows (chain_at 0 s))
        → (r ≡ 0) × (out' ≡ stored out 0
        (padded (map suc (pick_seq_by (order_of (side (table_at 0 t)).count (numbers_at 0 o)) ((side (table_at 0 t)).view (chain_rows (chain_at 0 s)))))))
    sequence-given ok passes m =
        let v = g.served long in
        let e = sequenced-ladder side (table_at 0 t) (numbers_at 0 o) (chain_at 0 s) v.answer v.promised ok passes m in (
          v.says ∙ e.0,
          v.leaves ∙ ap (λ (n : ℕ). words_after n v.answer.value out) (v.says ∙ e.0) ∙ ap (stored out 0) e.1,
        )
