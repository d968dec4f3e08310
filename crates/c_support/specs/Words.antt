-- The words of each number that an entry of the C library returns: the one place that says them. The conditions are those of 01 and 02; where a line there
-- leans on its place in the table of refusals, as "longer than 65,536" does, the words name what it is about.
--
-- In order: a text as bytes; the text of a number in a list; the list; the words of every number.
use Rattle.std.specs.Prelude.{cond, List, [], ◌∷◌, ℕ, eqb}
use Prim.Native.Char.{code}
use Prim.Native.String.{String, [] as done, ◌∷◌ as ◌then◌}

-- a text as bytes: the code of each character. Every text here is of ASCII (`words_plain` in proofs/Sentences.antt), where the code is the byte
unfoldable pub bytes_of : String → List ℕ
bytes_of done = []
bytes_of (c then s) = code c ∷ bytes_of s

-- the text of a number in a list of numbers and texts; the other one where the number is not in it
unfoldable pub text_in : List (ℕ × String) → String → ℕ → String
text_in [] other n = other
text_in (t ∷ ts) other n = cond (eqb n t.0) t.1 (text_in ts other n)

-- 01, "Refused, by the place of the check": "1 longer than 65,536"; "2 not the banner"; "3 longer than 1,024"; "4 absent or not three fields; then 5 G or L
-- not in 1..64"; "6 not two fields; then 7 g or c outside 1..G, 1..L; then 8 pair repeated; then 9 more than N pairs"; "9 fewer than N pairs"; "10 G or L not
-- in 1..64; then 11 a bit at L or above, or a row past G not zero"; "12 row count not G; then 13 a pair not in the table"; "14 not a chain"; "15 a value that
-- no number of moves, 0 included, from a fresh start on its table leads to"; "16 buffer shorter than the file"; "17 k is 0 or above the number of comments";
-- "18 above 1,000,000". 02: R-2, "19: the pair named is not in the table"; R-5, "20: v out of range", "21: cutoff out of range"; R-6, "22: the pair is in the
-- ladder"; R-7, "23: G or L above 8, then 24: more than 1,024 ladders"; R-10, "25: not a ladder of the table", "26 ..: the proposal is not what the trial of
-- its ladder and place on that table gives"; R-12, "27: not such an arrangement"; R-13, "28: the start is zero or the density above 256". 0 is no refusal, and
-- 100 the library's own: "100 where a lent slice is shorter than its layout" (words/specs/Serving).
abbrev pub texts : List (ℕ × String)
texts =
    (0, "accepted")
    ∷ (1, "file longer than 65,536 bytes")
    ∷ (2, "first line is not the banner")
    ∷ (3, "line longer than 1,024 bytes")
    ∷ (4, "size line absent or not three fields")
    ∷ (5, "G or L not in 1..64")
    ∷ (6, "pair line not two fields")
    ∷ (7, "g or c outside 1..G, 1..L")
    ∷ (8, "pair repeated")
    ∷ (9, "more or fewer than N pairs")
    ∷ (10, "G or L not in 1..64")
    ∷ (11, "a bit at L or above, or a row past G not zero")
    ∷ (12, "row count not G")
    ∷ (13, "a pair not in the table")
    ∷ (14, "not a chain")
    ∷ (15, "a value that no moves from a fresh start lead to")
    ∷ (16, "buffer too short")
    ∷ (17, "no such comment")
    ∷ (18, "budget above 1,000,000")
    ∷ (19, "the pair named is not in the table")
    ∷ (20, "reading outside -1,000,000..1,000,000")
    ∷ (21, "cutoff not in 1..1,000,000")
    ∷ (22, "the pair is in the ladder")
    ∷ (23, "G or L above 8")
    ∷ (24, "more than 1,024 ladders")
    ∷ (25, "not a ladder of the table")
    ∷ (26, "the proposal is not what the trial on the current table gives")
    ∷ (27, "the preference is no arrangement")
    ∷ (28, "the start is zero or the density above 256")
    ∷ (100, "lent memory is shorter than its layout")
    ∷ []

-- the text of a number that no entry returns
abbrev pub other_text : String
other_text = "a number without words"

-- the words of a number
unfoldable pub words_of : ℕ → List ℕ
words_of n = bytes_of (text_in texts other_text n)
