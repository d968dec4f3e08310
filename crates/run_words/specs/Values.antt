-- Paused values and answers of run calls in words. A paused value of either side has 199: word 0 the side (1 gauge run, 2 case run), 1 to 66 its
-- table, 67 to 130 its preference, 131 to 194 its picks by number, 195 their count, 196 its phase (0 Down, 1 Handed, 2 Back, 3 Ended), 197 the number
-- that it is back from, else 0, and 198 whether it omits (1, else 0). An answer has 131: word 0 what it is (1 handed out, 2 spent, 3 end), 1 the
-- moves, 2 to 66 the chain by gauge rows, 67 to 130 its pick sequence. Words that no value has read as one that no moves lead to, back from number 0:
-- so it gets 15, after its table and its preference.
--
-- In order: the number of a side; the value that words read as; the words of a value; the words and the number of an answer.
use Rattle.std.specs.Prelude.{Bool, true, false, ◌&&◌, ◌||◌, not, cond, List, [], ◌∷◌, ◌++◌, ℕ, eqb, leb}
use Rattle.table.specs.declared.Chain.{Chain}
use Rattle.rules.specs.Machine.{Phase, Down, Handed, Back, Ended}
use Rattle.rules.specs.Calls.{Reply, refused, spent, handed, end}
use Rattle.runs.specs.Paused.{Value}
use Rattle.runs.specs.Calling.{Step}
use Rattle.runs.specs.declared.batches.Close.{Close}
use Rattle.runs.specs.declared.batches.Close.TheVariants.{Full, Spent, End}
use Rattle.words.specs.Layouts.{word_at, numbers_at, table_at, table_words, chain_words}
use Rattle.run_words.specs.declared.Mark.{Mark}

-- ---- the number of a side by its mark, true for the cases (`side_of`, runs/specs/Sides): the first word of its values
abbrev pub side_word : Bool → ℕ
side_word false = 1
side_word true = 2

-- ---- reading
-- the phase with the number n, back from x
unfoldable pub phase_of : ℕ → ℕ → Phase
phase_of n x = cond (eqb n 0) Down (cond (eqb n 1) Handed (cond (eqb n 3) Ended (Back x)))

-- the words are of a value of the side k: its number, a phase and an omit that there are, and a number that it is back from only where it is Back
unfoldable pub is_value : ℕ → List ℕ → Bool
is_value k w = eqb (word_at w 0) k && (leb (word_at w 196) 3 && (leb (word_at w 198) 1 && (eqb (word_at w 196) 2 || eqb (word_at w 197) 0)))

-- the phase's number and what it is back from; of other words those of a phase that no value has
abbrev pub mark_at : ℕ → List ℕ → Mark
mark_at k w = record { phase = cond (is_value k w) (word_at w 196) 2; from = cond (is_value k w) (word_at w 197) 0 }

abbrev pub value_at : ℕ → List ℕ → Value
value_at k w = record {
  table = table_at 1 w;
  order = numbers_at 67 w;
  picks = numbers_at 131 w;
  count = word_at w 195;
  phase = phase_of (mark_at k w).phase (mark_at k w).from;
  omit = not (eqb (word_at w 198) 0);
}

-- ---- putting
-- a phase's number, and what it is back from
abbrev pub mark_of : Phase → Mark
mark_of Down = record { phase = 0; from = 0 }
mark_of Handed = record { phase = 1; from = 0 }
mark_of (Back x) = record { phase = 2; from = x }
mark_of Ended = record { phase = 3; from = 0 }

-- 1 for true and 0 for false
abbrev pub word_of : Bool → ℕ
word_of b = cond b 1 0

-- the words of a value of the side k
abbrev pub value_words : ℕ → Value → List ℕ
value_words k v =
    k ∷ table_words v.table ++ v.order ++ v.picks
    ++ (v.count ∷ ((mark_of v.phase).phase ∷ ((mark_of v.phase).from ∷ (word_of v.omit ∷ []))))

-- ---- answers
abbrev pub answer_words : ℕ → ℕ → Chain → List ℕ → List ℕ
answer_words outcome moves s picks = outcome ∷ (moves ∷ chain_words s) ++ picks

-- the number of an answer, and of its refusal
abbrev pub outcome_number : Reply → ℕ
outcome_number (refused n) = 0
outcome_number (handed x) = 1
outcome_number spent = 2
outcome_number end = 3

abbrev pub refusal_number : Reply → ℕ
refusal_number (refused n) = n
refusal_number (handed x) = 0
refusal_number spent = 0
refusal_number end = 0

-- the number of how a batch stopped
abbrev pub close_of : Close → ℕ
close_of Full = 1
close_of Spent = 2
close_of End = 3

abbrev pub step_words : Step → List ℕ
step_words s = answer_words (outcome_number s.answer) s.moves s.chain s.picks
