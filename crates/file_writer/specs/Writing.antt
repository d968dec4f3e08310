-- The file of a table, and what writing it to a lent buffer does (01, "The file"): "The writer gives banner, size line, then pairs by
-- gauge and then case: single spaces, no leading zeros, LF everywhere." "It fills the front of the lent buffer, reports the length,
-- and touches no byte behind." LF is 10, a space is 32, and the digit 0 is 48.
use Rattle.std.specs.Prelude.{ℕ, zero, suc, ◌+◌, ◌/◌, ◌%◌, List, [], ◌∷◌, ◌++◌, true, false, cond, length, drop, ltb, eqb, Result}
use Rattle.table.specs.Tables.{table_refusal, table_rows}
use Rattle.refusals.specs.Answers.{Answer, answer, answered, number}
use Rattle.refusals.specs.declared.Refusal.{Refusal}
use Rattle.refusals.specs.declared.Refusal.TheVariants.{BufferTooShort}
use Rattle.table.specs.declared.Gauge.{Gauge}
use Rattle.table.specs.declared.Case.{Case}
use Rattle.table.specs.declared.Table.{Table}
use Rattle.file_kinds.specs.Banner.{banner}

-- how the code's answer reads: the length of the file, 0 beside a refusal
abbrev pub written : Result ℕ Refusal → Answer ℕ
written = answered 0

-- n in decimal, of at most k digits, with no leading zero (without the count: `digits_short` and `digits_long` in proofs/Decimals.antt)
unfoldable pub decimal : ℕ → ℕ → List ℕ
decimal zero n = []
decimal (suc k) n = elim (ltb n 10) [ true ↦ (48 + n) ∷ [] | false ↦ decimal k (n / 10) ++ (48 + n % 10) ∷ [] ]

-- every number of a file has at most 9 digits ("A field is 1 to 9 digits")
abbrev pub digits : ℕ → List ℕ
digits n = decimal 9 n

-- the gauge of a number, and the case of one
abbrev pub gauge_of : ℕ → Gauge
gauge_of n = record { 0 = n }

abbrev pub case_of : ℕ → Case
case_of n = record { 0 = n }

-- a pair g:c
pub record GaugeCase : Type 0 where
  pub gauge : Gauge
  pub case : Case

-- the pairs of gauge g whose case is one of the n cases from c on; bit 0 of bits is case c
unfoldable pub row_pairs : Gauge → ℕ → ℕ → ℕ → List GaugeCase
row_pairs g zero c bits = []
row_pairs g (suc n) c bits =
    elim (eqb (bits % 2) 1) [
      | true ↦ record { gauge = g; case = case_of c } ∷ row_pairs g n (suc c) (bits / 2)
      | false ↦ row_pairs g n (suc c) (bits / 2)
    ]

-- the pairs of the rows over cs cases, the first of which is gauge g's
unfoldable pub pairs_from : ℕ → ℕ → List ℕ → List GaugeCase
pairs_from cs g [] = []
pairs_from cs g (r ∷ rows) = row_pairs (gauge_of g) cs 1 r ++ pairs_from cs (suc g) rows

-- the pairs of a table, "by gauge and then case"
abbrev pub pairs : Table → List GaugeCase
pairs t = pairs_from t.cases 1 (table_rows t)

-- the line of a pair, and lines, each with its LF
abbrev pub pair_text : GaugeCase → List ℕ
pair_text p = digits p.gauge.0 ++ 32 ∷ digits p.case.0

abbrev pub lines_of : (GaugeCase → List ℕ) → List GaugeCase → List ℕ
lines_of text [] = []
lines_of text (p ∷ ps) = text p ++ 10 ∷ lines_of text ps

-- the size line `G L N`
abbrev pub size_text : Table → List ℕ
size_text t = digits t.gauges ++ 32 ∷ (digits t.cases ++ 32 ∷ digits (length (pairs t)))

-- the file of a table
unfoldable pub write_file : Table → List ℕ
write_file t = banner ++ 10 ∷ (size_text t ++ 10 ∷ lines_of pair_text (pairs t))

-- the number for writing a file to a buffer of n bytes, where r is the number of the checks ahead, or 0: "16 buffer shorter than the file"
unfoldable pub room_refusal : ℕ → List ℕ → ℕ → ℕ
room_refusal r file n = cond (eqb r 0) (cond (ltb n (length file)) (number BufferTooShort) 0) r

-- the answer: the length of the file
abbrev pub room_answer : ℕ → List ℕ → ℕ → Answer ℕ
room_answer r file n = answer (room_refusal r file n) (length file) 0

-- the buffer afterwards: the file and what was behind it, or as it was
abbrev pub room_buffer : ℕ → List ℕ → List ℕ → List ℕ
room_buffer r file out = cond (eqb (room_refusal r file (length out)) 0) (file ++ drop (length file) out) out

-- of a table: "Writer, after its table: 16 buffer shorter than the file"
abbrev pub write_refusal : Table → ℕ → ℕ
write_refusal t n = room_refusal (table_refusal t) (write_file t) n

abbrev pub write_answer : Table → ℕ → Answer ℕ
write_answer t n = room_answer (table_refusal t) (write_file t) n

abbrev pub buffer_after : Table → List ℕ → List ℕ
buffer_after t out = room_buffer (table_refusal t) (write_file t) out
