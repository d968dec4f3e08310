-- What the entries on files give is there for every input, and is one thing only. And the table that reading left in a slice is that of the file, a legal
-- one, so that every entry takes it.
--
-- In order: reading (`reads_unique`, `reads_exists`), with slices no longer than their layouts (`reads_served`), and the table read (`reads-table`,
-- `reads-legal`); the line that decides (`locates_unique`, `locates_exists`, `locates_served`); comments (`comment_unique`, `comment_exists`,
-- `comment_served`); writing (`writes_unique`, `writes_exists`, `writes_served`).
--
-- Elsewhere: what holds of every entry, words/proofs/Answers and Back; what writing left is read back, RoundTrip.antt.
use mathlib.Core.Path.{◌≡◌, refl, sym, ap, ◌∙◌}
use mathlib.Core.Bool.{not}
use mathlib.Core.Logic.{◌⊎◌}
use mathlib.Core.List.{List, [], ◌∷◌}
use Prim.Native.Nat.{ℕ, ◌≤◌, ◌<◌}
use native.Mathlib.Omega.{arith}
use lib.Dec.{eqb}
use lib.ListN.{length}
use Rattle.table.specs.Tables.{Legal}
use Rattle.file_reader.specs.Promises.{TableOfFile, LineOfFile}
use Rattle.file_reader.specs.private.Reading.{read_file, comment_at}
use Rattle.file_reader.specs.private.Stopping.{stop_line}
use Rattle.file_reader.proofs.Promising.{
  table_of_file,
  table_of_file_unique,
  line_of_file,
  line_of_file_unique,
  comment_of_file,
  comment_of_file_unique,
}
use Rattle.file_writer.specs.Writing.{write_answer, buffer_after}
use Rattle.words.specs.Layouts.{table_at, table_words}
use Rattle.words.specs.Serving.{words_after}
use Rattle.words.proofs.Serving.{long, long_two}
use Rattle.words.proofs.Answers.{short_dec, or_dec, gives_is, gives_exists, gives_unique}
use Rattle.words.proofs.Back.{table_left, rows_size}
use Rattle.round_trip.proofs.Written.{table_back}
use Rattle.c_files.specs.Serving.{Reads, Locates, ShowsComment, WrittenTable, WritesTable}
use Rattle.c_files.proofs.Serving.{writes_short}

-- ---- reading
module _ (file out : List ℕ) where
  pub reads_unique : (a b : List ℕ) (r q : ℕ) → Reads file out a r → Reads file out b q → (a ≡ b) × (r ≡ q)
  reads_unique = gives_unique out (short_dec out 66) (table_of_file_unique file)

  pub reads_exists : (out' : List ℕ) × (r : ℕ) × Reads file out out' r
  reads_exists = gives_exists out (short_dec out 66) (read_file file) (table_of_file file (read_file file) refl)

  -- 66 words are enough
  pub reads_served : 66 ≤ length out → (out' : List ℕ) (r : ℕ) → Reads file out out' r
      → (r ≡ (read_file file).refusal) × (out' ≡ words_after (read_file file).refusal (table_words (read_file file).value) out)
  reads_served l = gives_is out (table_of_file_unique file) (long l) (read_file file) (table_of_file file (read_file file) refl)

  -- the table in the words is that of the file
  module _ (out' : List ℕ) (r : ℕ) (z : r ≡ 0) (g : Reads file out out' r) where
    pub reads-table : TableOfFile file (record { refusal = 0; value = table_at 0 out' })
    reads-table = table_left out out' r z g (λ n. omega arith) (λ a p e. (p.table e).rows_length)

    pub reads-legal : Legal (table_at 0 out')
    reads-legal = reads-table.table refl

-- ---- the line that decides
module _ (file : List ℕ) (either : ℕ) (out : List ℕ) where
  pub locates_unique : (a b : List ℕ) (r q : ℕ) → Locates file either out a r → Locates file either out b q → (a ≡ b) × (r ≡ q)
  locates_unique = gives_unique out (short_dec out 1) (line_of_file_unique (not (eqb either 0)) file)

  pub locates_exists : (out' : List ℕ) × (r : ℕ) × Locates file either out out' r
  locates_exists =
      let n = stop_line (not (eqb either 0)) file in
      gives_exists out (short_dec out 1) n (line_of_file (not (eqb either 0)) file n refl)

  -- 1 word is enough, and no file is refused: the word is the line that decides
  pub locates_served : 1 ≤ length out → (out' : List ℕ) (r : ℕ) → Locates file either out out' r → (n : ℕ) → LineOfFile (not (eqb either 0)) file n
      → (r ≡ 0) × (out' ≡ words_after 0 (n ∷ []) out)
  locates_served l out' r g n x = gives_is out (line_of_file_unique (not (eqb either 0)) file) (long l) n x out' r g

-- ---- comments
module _ (file : List ℕ) (k : ℕ) (out : List ℕ) where
  pub comment_unique : (a b : List ℕ) (r q : ℕ) → ShowsComment file k out a r → ShowsComment file k out b q → (a ≡ b) × (r ≡ q)
  comment_unique = gives_unique out (short_dec out 2) (comment_of_file_unique file k)

  pub comment_exists : (out' : List ℕ) × (r : ℕ) × ShowsComment file k out out' r
  comment_exists = gives_exists out (short_dec out 2) (comment_at file k) (comment_of_file file k (comment_at file k) refl)

  pub comment_served : 2 ≤ length out → (out' : List ℕ) (r : ℕ) → ShowsComment file k out out' r
      → (r ≡ (comment_at file k).refusal) × (out' ≡ words_after (comment_at file k).refusal
      ((comment_at file k).value.start ∷ ((comment_at file k).value.len ∷ [])) out)
  comment_served l = gives_is out (comment_of_file_unique file k) (long l) (comment_at file k) (comment_of_file file k (comment_at file k) refl)

-- ---- writing
module _ (t bytes len : List ℕ) where
  write_dec : Dec ((length t < 66) ⊎ (length len < 1))
  write_dec = or_dec (short_dec t 66) (short_dec len 1)

  pub writes_unique : (a b c d : List ℕ) (r q : ℕ) → WritesTable t bytes len a c r → WritesTable t bytes len b d q → (a ≡ b) × (c ≡ d) × (r ≡ q)
  writes_unique a b c d r q g h = go write_dec
    where
      go : Dec ((length t < 66) ⊎ (length len < 1)) → (a ≡ b) × (c ≡ d) × (r ≡ q)
      go (yes s) =
          let (r1, a1, c1) = g.short s in
          let (r2, a2, c2) = h.short s in
          (a1 ∙ sym a2, c1 ∙ sym c2, r1 ∙ sym r2)
      go (no s) = (
        x.file ∙ sym y.file,
        x.size ∙ ap (λ (n : ℕ). words_after n ((write_answer (table_at 0 t) (length bytes)).value ∷ []) len) same ∙ sym y.size,
        same,
      )
        where
          x : WrittenTable (table_at 0 t) bytes len a c r
          x = g.served s

          y : WrittenTable (table_at 0 t) bytes len b d q
          y = h.served s

          same : r ≡ q
          same = x.number ∙ sym y.number

  pub writes_exists : (bytes' : List ℕ) × (len' : List ℕ) × (r : ℕ) × WritesTable t bytes len bytes' len' r
  writes_exists = go write_dec
    where
      go : Dec ((length t < 66) ⊎ (length len < 1)) → (bytes' : List ℕ) × (len' : List ℕ) × (r : ℕ) × WritesTable t bytes len bytes' len' r
      go (yes s) = (bytes, len, 100, writes_short t bytes len s)
      go (no s) = (
        buffer_after (table_at 0 t) bytes,
        words_after (write_answer (table_at 0 t) (length bytes)).refusal ((write_answer (table_at 0 t) (length bytes)).value ∷ []) len,
        (write_answer (table_at 0 t) (length bytes)).refusal,
        record {
          short = λ y. absurd (s y);
          served = λ _. record {
            number = refl;
            file = refl;
            size = refl;
            back = λ z. table_back (table_at 0 t) bytes _ (rows_size 2 t) z refl;
          };
        },
      )

  -- 66 words and 1 are enough
  pub writes_served : 66 ≤ length t → 1 ≤ length len → (bytes' len' : List ℕ) (r : ℕ) → WritesTable t bytes len bytes' len' r
      → WrittenTable (table_at 0 t) bytes len bytes' len' r
  writes_served lt ll bytes' len' r g = g.served (long_two lt ll)
