-- How a slice of words and a slice of readings read as a recorded test, and what a test is put as. The words: 0 the kind (1 entries alone, 2 entries
-- with readings), 1 the gauges, 2 the cases, 3 to 66 the rows of entries. The readings: 4,096, that of gauge g under case c at (g - 1) * 64 + (c - 1).
-- A word that is no kind makes a test that the checks refuse with 11 after 10: a pattern test with a reading, at 1:1 (`no_kind_shape` and `no_kind_rest`
-- in proofs/Reading.antt). What is put reads back (`test_back` there).
--
-- In order: the kind; reading; putting. Elsewhere: the layout of rows, words/specs/Layouts; the test and its checks, recorded/specs/Tests.
use Rattle.std.specs.Prelude.{Bool, ◌||◌, cond, List, ◌∷◌, ◌++◌, ℕ, eqb, ℤ, pos, take, set}
use Rattle.recorded.specs.Tests.{no_readings}
use Rattle.recorded.specs.declared.Kind.{Kind}
use Rattle.recorded.specs.declared.Kind.TheVariants.{Pattern, Integer}
use Rattle.recorded.specs.declared.Test.{Test}
use Rattle.words.specs.Layouts.{word_at, rows_at}

-- ---- the kind
abbrev pub is_kind : ℕ → Bool
is_kind x = eqb x 1 || eqb x 2

abbrev pub kind_of : ℕ → Kind
kind_of x = cond (eqb x 2) Integer Pattern

abbrev pub kind_word : Kind → ℕ
kind_word Pattern = 1
kind_word Integer = 2

-- ---- reading
-- the first 4,096 readings; a place behind the last reads as 0
abbrev pub readings_at : List ℤ → List ℤ
readings_at v = take 4096 (v ++ no_readings)

-- 1 at the place of 1:1 and 0 everywhere else
abbrev pub stray_reading : List ℤ
stray_reading = set no_readings 0 (pos 1)

-- the readings beside the word x
abbrev pub readings_beside : ℕ → List ℤ → List ℤ
readings_beside x v = cond (is_kind x) (readings_at v) stray_reading

abbrev pub test_at : List ℕ → List ℤ → Test
test_at w v = record {
  kind = kind_of (word_at w 0);
  gauges = word_at w 1;
  cases = word_at w 2;
  entries = rows_at 3 w;
  readings = readings_beside (word_at w 0) v;
}

-- ---- putting
abbrev pub test_words : Test → List ℕ
test_words t = kind_word t.kind ∷ (t.gauges ∷ (t.cases ∷ t.entries))
