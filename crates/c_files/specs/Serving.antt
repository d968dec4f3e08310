-- What the entries on files give: in words, what the library's own function promises of the bytes, and of the table that the words read as.
--
-- Elsewhere: the layouts, words/specs/Layouts; the number returned and what a slice of words is left with, words/specs/Serving.
use Rattle.std.specs.Prelude.{◌≡◌, not, ◌⊎◌, List, [], ◌∷◌, ℕ, ◌<◌, eqb, length, take}
use Rattle.refusals.specs.Answers.{Answer}
use Rattle.table.specs.declared.Table.{Table}
use Rattle.file_reader.specs.Comments.{Part}
use Rattle.file_reader.specs.Promises.{TableOfFile, LineOfFile, CommentOfFile}
use Rattle.file_writer.specs.Writing.{write_answer, buffer_after}
use Rattle.round_trip.specs.Back.{TableBack}
use Rattle.words.specs.Layouts.{table_at, table_words}
use Rattle.words.specs.Serving.{words_after, Gives}

-- the table of a file of pairs
abbrev pub Reads : List ℕ → List ℕ → List ℕ → ℕ → Type 0
Reads file out out' r =
    Gives (length out < 66)
    (TableOfFile file)
    (λ (a : Answer Table). a.refusal)
    (λ (a : Answer Table). table_words a.value)
    out
    out'
    r

-- the number of the line that decides, for the reader of files of pairs where `either` is 0, else for the one that takes either kind; no file is refused
abbrev pub Locates : List ℕ → ℕ → List ℕ → List ℕ → ℕ → Type 0
Locates file either out out' r =
    Gives (length out < 1)
    (LineOfFile (not (eqb either 0)) file)
    (λ (n : ℕ). 0)
    (λ (n : ℕ). n ∷ [])
    out
    out'
    r

-- where comment k of a file starts, and its length
abbrev pub ShowsComment : List ℕ → ℕ → List ℕ → List ℕ → ℕ → Type 0
ShowsComment file k out out' r =
    Gives (length out < 2)
    (CommentOfFile file k)
    (λ (a : Answer Part). a.refusal)
    (λ (a : Answer Part). a.value.start ∷ (a.value.len ∷ []))
    out
    out'
    r

-- the file of a table at the front of the bytes, and its length; 16 where they are too few. The bytes are left as the writer leaves them, as they
-- were where it refuses; what is written reads back as the table
pub record WrittenTable (t : Table) (bytes len bytes' len' : List ℕ) (r : ℕ) : Type 0 where
  pub number : r ≡ (write_answer t (length bytes)).refusal
  pub file : bytes' ≡ buffer_after t bytes
  pub size : len' ≡ words_after r ((write_answer t (length bytes)).value ∷ []) len
  pub back : r ≡ 0 → TableBack t (take (write_answer t (length bytes)).value bytes')

pub record WritesTable (t bytes len bytes' len' : List ℕ) (r : ℕ) : Type 0 where
  pub short : (length t < 66) ⊎ (length len < 1) → (r ≡ 100) × (bytes' ≡ bytes) × (len' ≡ len)
  pub served : ¬ ((length t < 66) ⊎ (length len < 1)) → WrittenTable (table_at 0 t) bytes len bytes' len' r
