-- What the entries on parts of a list give: in words, what the library's own functions promise of the value that the
-- words read as. A part is a paused value in the phase Down. That "the parts of its candidates, one after the other,
-- are the part" is `SplitsAt`; that run calls from it hand out its list, until the part is closed, is `ListsPart`;
-- that they do by any choice of parts in its place, each run to its close, is `ListsWhole`. The same is promised of
-- the words themselves: the words that a part was put into read as that part (`reads`), and the run calls that a
-- caller makes on them hand out its list (`ListsPartWords`), also by any choice of parts (`ListsWholeWords`).
--
-- In order: run calls on the words of a part; the part of one candidate; the candidates of a part by value; parts in
-- place of a part, in words, and their runs; the candidates of a part.
--
-- Elsewhere: the promises, crate `split`, specs/Entries, specs/Listing and specs/Whole; the layouts,
-- run_words/specs/Values; the number returned and what a slice is left with, words/specs/Serving; lists of calls on
-- one slice, and how their answers read, c_runs/specs/Calls.
use Rattle.std.specs.Prelude.{◌≡◌, true, ◌⊎◌, ◌≢◌, List, [], ◌∷◌, ◌++◌, map, ℕ, ◌≤◌, ◌<◌, length}
use Rattle.refusals.specs.Answers.{Answer}
use Rattle.table.specs.declared.Table.{Table}
use Rattle.rules.specs.Machine.{Down, at}
use Rattle.lists.specs.Lists.{Side}
use Rattle.runs.specs.Paused.{Value}
use Rattle.runs.specs.Calling.{value_refusal, PausedAt}
use Rattle.split.specs.Entries.{CandidatesAt, PartAt, SplitsAt}
use Rattle.split.specs.Listing.{is_closed, PartRun, ListsPart}
use Rattle.split.specs.Whole.{numbers_in, WholeRun, ListsWhole}
use Rattle.words.specs.Layouts.{numbers_at}
use Rattle.words.specs.Serving.{Gives}
use Rattle.run_words.specs.Values.{value_at, value_words}
use Rattle.c_runs.specs.Calls.{Seen, WordCalls, steps_read}

-- ---- run calls on the words of a part
-- every list of calls on the words w, with any budgets, each on the words that the last one left: the answers that
-- are read from what is seen of them hand out the list of the part that w reads as. Of calls by value this is
-- `ListsPart`.
abbrev pub ListsPartWords : (Table → Side) → ℕ → List ℕ → Type 0
ListsPartWords side n w =
    value_refusal side (value_at n w) ≡ 0 → (p : List ℕ) → PausedAt side (value_at n w) (at p Down)
    → (bs : List ℕ) (xs : List Seen) → WordCalls side n w bs xs → PartRun side (value_at n w) p (steps_read n xs)

-- ---- the part of one candidate
-- what the library promises of the part a of the value v that has the candidate g as a pick more: run calls from it
-- hand out its list
pub record Part (side : Table → Side) (v : Value) (g : ℕ) (a : Answer Value) : Type 0 where
  pub part : PartAt side v g a
  pub lists : ListsPart side a.value

-- the run in the words w of the side with number n, the candidate g, and the slice that gets the part's value. Where
-- it returns 0, the words left there read as the part, and run calls on them hand out its list.
pub record GivesPart (side : Table → Side) (n : ℕ) (w : List ℕ) (g : ℕ) (out out' : List ℕ) (r : ℕ) : Type 0 where
  pub gives :
      Gives ((length w < 199) ⊎ (length out < 199))
      (Part side (value_at n w) g)
      (λ (a : Answer Value). a.refusal)
      (λ (a : Answer Value). value_words n a.value)
      out
      out'
      r
  pub reads : r ≡ 0 → PartAt side (value_at n w) g (record { refusal = 0; value = value_at n out' })
  pub lists : r ≡ 0 → ListsPartWords side n out'

-- ---- the candidates of a part, by value
-- what the library promises of the candidates a of the value v: they name the parts that v is split into, and the
-- lists of these are, one after the other, the list of v, which run calls from v hand out, and run calls from parts
-- in its place
pub record Candidates (side : Table → Side) (v : Value) (a : Answer (List ℕ)) : Type 0 where
  pub candidates : CandidatesAt side v a
  pub splits : SplitsAt side v
  pub lists : ListsPart side v
  pub whole : ListsWhole side v

-- the run in the words w of the side with number n, and the slice that gets the numbers of its candidates
abbrev pub PutsCandidates : (Table → Side) → ℕ → List ℕ → List ℕ → List ℕ → ℕ → Type 0
PutsCandidates side n w out out' r =
    Gives ((length w < 199) ⊎ (length out < 64))
    (Candidates side (value_at n w))
    (λ (a : Answer (List ℕ)). a.refusal)
    (λ (a : Answer (List ℕ)). a.value)
    out
    out'
    r

-- ---- parts in place of a part, in words: as split/specs/Whole has them by value
-- us are the words of the parts of w for the numbers gs, in turn, each put into some slice
abbrev pub WordPartsOf : (Table → Side) → ℕ → List ℕ → List ℕ → List (List ℕ) → Type 0
WordPartsOf side n w [] [] = Unit {0}
WordPartsOf side n w [] (u ∷ us) = ⊥
WordPartsOf side n w (g ∷ gs) [] = ⊥
WordPartsOf side n w (g ∷ gs) (u ∷ us) = ((out : List ℕ) × GivesPart side n w g out u 0) × WordPartsOf side n w gs us

-- us are the words of the parts of all the candidates of w, in turn, and there is one: the candidates were put into
-- the slice `out`, and left `numbers`
pub record WordSplitInto (side : Table → Side) (n : ℕ) (w : List ℕ) (us : List (List ℕ)) : Type 0 where
  pub out : List ℕ
  pub numbers : List ℕ
  pub found : PutsCandidates side n w out numbers 0
  pub parts : WordPartsOf side n w (numbers_in (numbers_at 0 numbers)) us
  pub some : us ≢ []

-- us are the words of a choice of parts that make up the part in w: w alone, or one in which some part u has given
-- its place to the parts of its candidates
pub data WordChoice (side : Table → Side) (n : ℕ) (w : List ℕ) : List (List ℕ) → Type 0 where
  words_itself : WordChoice side n w (w ∷ [])
  words_replaced : (b c us : List (List ℕ)) (u : List ℕ) → WordChoice side n w (b ++ (u ∷ c)) → WordSplitInto side n u us → WordChoice side n w (b ++ (us ++ c))

-- xs is seen of a list of calls on the words u, with some budgets, that closes the part
pub record ClosedWordRun (side : Table → Side) (n : ℕ) (u : List ℕ) (xs : List Seen) : Type 0 where
  pub budgets : List ℕ
  pub calls : WordCalls side n u budgets xs
  pub closed : is_closed (value_at n u) (steps_read n xs) ≡ true

-- xss are such for each of the parts us, in turn
abbrev pub EachWordClosed : (Table → Side) → ℕ → List (List ℕ) → List (List Seen) → Type 0
EachWordClosed side n [] [] = Unit {0}
EachWordClosed side n [] (xs ∷ xss) = ⊥
EachWordClosed side n (u ∷ us) [] = ⊥
EachWordClosed side n (u ∷ us) (xs ∷ xss) = ClosedWordRun side n u xs × EachWordClosed side n us xss

-- every choice of parts that make up the one in w, each run to its close: the answers that are read hand out, one
-- part after the other, the list of the part that w reads as, which is the whole list where w holds a fresh start. By
-- value this is `ListsWhole`.
abbrev pub ListsWholeWords : (Table → Side) → ℕ → List ℕ → Type 0
ListsWholeWords side n w =
    value_refusal side (value_at n w) ≡ 0 → (p : List ℕ) → PausedAt side (value_at n w) (at p Down)
    → (us : List (List ℕ)) → WordChoice side n w us → (xss : List (List Seen)) → EachWordClosed side n us xss
    → WholeRun side (value_at n w) p (map (value_at n) us) (map (steps_read n) xss)

-- ---- the candidates of a part
-- what is put; and run calls on w, where it has the words of a run, hand out its list, and so do those on the words
-- of any choice of parts in its place
pub record GivesCandidates (side : Table → Side) (n : ℕ) (w out out' : List ℕ) (r : ℕ) : Type 0 where
  pub gives : PutsCandidates side n w out out' r
  pub lists : 199 ≤ length w → ListsPartWords side n w
  pub whole : 199 ≤ length w → ListsWholeWords side n w
