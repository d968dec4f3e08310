-- The file of a recorded test, and what writing it to a lent buffer does (02, R-5): "Write such files too, by gauge and then case, a sign only
-- on a negative v, otherwise as the writer does, and a pattern test as a pattern file". The file's banner is of the test's kind, its size
-- line counts the entries, and a line of an integer file has the entry's reading behind its pair. The sign - is 45, a space is 32.
use Rattle.std.specs.Prelude.{ℕ, suc, ◌+◌, ◌-◌, ◌*◌, List, ◌∷◌, ◌++◌, ℤ, pos, negsuc}
use Rattle.table.specs.declared.Table.{Table}
use Rattle.refusals.specs.Answers.{Answer}
use Rattle.recorded.specs.Tests.{reading, listed, test_refusal}
use Rattle.recorded.specs.declared.Kind.{Kind}
use Rattle.recorded.specs.declared.Kind.TheVariants.{Pattern, Integer}
use Rattle.recorded.specs.declared.Test.{Test}
use Rattle.file_kinds.specs.Banner.{banner_of}
use Rattle.file_writer.specs.Writing.{digits, GaugeCase, pairs, pair_text, lines_of, size_text, room_answer, room_buffer}

-- a reading: "a sign only on a negative v"
unfoldable pub reading_text : ℤ → List ℕ
reading_text (pos n) = digits n
reading_text (negsuc n) = 45 ∷ digits (suc n)

-- the reading of an entry
abbrev pub value_at : List ℤ → GaugeCase → ℤ
value_at vs p = reading vs ((p.gauge.0 - 1) * 64 + (p.case.0 - 1))

-- the line of an entry: `g c`, and in an integer file `g c v`
abbrev pub entry_text : Kind → List ℤ → GaugeCase → List ℕ
entry_text Pattern vs p = pair_text p
entry_text Integer vs p = pair_text p ++ 32 ∷ reading_text (value_at vs p)

-- the file of a kind, of entries that are the pairs of t and their readings vs
abbrev pub file_of : Kind → List ℤ → Table → List ℕ
file_of kind vs t = banner_of kind ++ 10 ∷ (size_text t ++ 10 ∷ lines_of (entry_text kind vs) (pairs t))

-- the file of a test
unfoldable pub test_file : Test → List ℕ
test_file t = file_of t.kind t.readings (listed t)

-- the answer, and the buffer afterwards: "A test handed in gets 10, then 11 .., then 20; .. 16 last"
abbrev pub test_answer : Test → ℕ → Answer ℕ
test_answer t n = room_answer (test_refusal t) (test_file t) n

abbrev pub test_buffer : Test → List ℕ → List ℕ
test_buffer t out = room_buffer (test_refusal t) (test_file t) out
