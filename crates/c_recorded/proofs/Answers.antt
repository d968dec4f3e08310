-- What the entries on recorded tests give is one thing only, for every input: reading (`reads_unique`) and writing (`writes_unique`), each of which is
-- there for every input too (`reads_exists`, `writes_exists`), and comparing (`equals_unique`), which gives what the library's comparison of the two
-- tests answers (`equals_exists`).
--
-- Elsewhere: what holds of every entry, words/proofs/Answers; the entries one after another, Joined.antt.
use mathlib.Core.Path.{◌≡◌, refl, sym, ap, ◌∙◌}
use mathlib.Core.Logic.{◌⊎◌}
use mathlib.Core.Bool.{Bool}
use mathlib.Core.List.{List, [], ◌∷◌}
use Prim.Native.Nat.{ℕ, ◌<◌}
use native.Mathlib.Decide.{dec_lt}
use lib.IntN.{ℤ}
use lib.ListN.{length}
use Rattle.recorded.specs.Equality.{ComparedAs}
use Rattle.std.specs.Prelude.{Result}
use Rattle.refusals.specs.declared.Refusal.{Refusal}
use Rattle.recorded.proofs.Equal.{compared_unique}
use Rattle.file_reader.specs.private.Reading.{read_test}
use Rattle.file_reader.proofs.Promising.{test_of_file}
use Rattle.file_writer.specs.TestFiles.{test_answer, test_buffer}
use Rattle.words.specs.Layouts.{word_at, table_words}
use Rattle.words.proofs.Back.{rows_size}
use Rattle.round_trip.proofs.Written.{test_back}
use Rattle.c_recorded.proofs.Readings.{beside_length}
use Rattle.c_recorded.proofs.Serving.{leaves_read}
use Rattle.words.specs.Serving.{words_after}
use Rattle.words.proofs.Answers.{short_dec, or_dec, gives_exists, gives_unique}
use Rattle.c_recorded.specs.Layouts.{test_at, test_words}
use Rattle.c_recorded.specs.Serving.{ShortTest, left_readings, LeavesTest, ReadsTest, WrittenTest, WritesTest, Equals}

test_dec : (w : List ℕ) (v : List ℤ) → Dec (ShortTest w v)
test_dec w v = or_dec (short_dec w 67) (dec_lt (length v) 4096)

-- ---- reading
module _ (file : List ℕ) (cutoff : ℕ) (w : List ℕ) (v : List ℤ) (t : List ℕ) where
  pub reads_unique : (a d : List ℕ) (b e : List ℤ) (c f : List ℕ) (r q : ℕ) → ReadsTest file cutoff w v t a b c r → ReadsTest file cutoff w v t d e f q
      → (a ≡ d) × (b ≡ e) × (c ≡ f) × (r ≡ q)
  reads_unique a d b e c f r q g h = go (or_dec (test_dec w v) (short_dec t 66))
    where
      go : Dec (ShortTest w v ⊎ (length t < 66)) → (a ≡ d) × (b ≡ e) × (c ≡ f) × (r ≡ q)
      go (yes s) =
          let (r1, a1, b1, c1) = g.short s in
          let (r2, a2, b2, c2) = h.short s in
          (a1 ∙ sym a2, b1 ∙ sym b2, c1 ∙ sym c2, r1 ∙ sym r2)
      go (no s) = (
        x.test ∙ ap (λ (n : ℕ). words_after n (test_words (read_test file cutoff).value.test) w) same ∙ sym y.test,
        x.readings ∙ ap (λ (n : ℕ). left_readings n (read_test file cutoff).value.test.readings v) same ∙ sym y.readings,
        x.table ∙ ap (λ (n : ℕ). words_after n (table_words (read_test file cutoff).value.table) t) same ∙ sym y.table,
        same,
      )
        where
          x : LeavesTest (read_test file cutoff) w v t a b c r
          x = leaves_read file cutoff w v t (g.served s)

          y : LeavesTest (read_test file cutoff) w v t d e f q
          y = leaves_read file cutoff w v t (h.served s)

          same : r ≡ q
          same = x.number ∙ sym y.number

  pub reads_exists : (a : List ℕ) × (b : List ℤ) × (c : List ℕ) × (r : ℕ) × ReadsTest file cutoff w v t a b c r
  reads_exists = go (or_dec (test_dec w v) (short_dec t 66))
    where
      go : Dec (ShortTest w v ⊎ (length t < 66)) → (a : List ℕ) × (b : List ℤ) × (c : List ℕ) × (r : ℕ) × ReadsTest file cutoff w v t a b c r
      go (yes s) = (w, v, t, 100, record { short = λ _. (refl, refl, refl, refl); served = λ n. absurd (n s) })
      go (no s) = (
        words_after (read_test file cutoff).refusal (test_words (read_test file cutoff).value.test) w,
        left_readings (read_test file cutoff).refusal (read_test file cutoff).value.test.readings v,
        words_after (read_test file cutoff).refusal (table_words (read_test file cutoff).value.table) t,
        (read_test file cutoff).refusal,
        record {
          short = λ y. absurd (s y);
          served = λ _. record {
            answer = read_test file cutoff;
            promised = test_of_file file cutoff (read_test file cutoff) refl;
            leaves = record { number = refl; test = refl; readings = refl; table = refl };
          };
        },
      )

-- ---- writing
module _ (w : List ℕ) (v : List ℤ) (bytes len : List ℕ) where
  pub writes_unique : (a b c d : List ℕ) (r q : ℕ) → WritesTest w v bytes len a c r → WritesTest w v bytes len b d q → (a ≡ b) × (c ≡ d) × (r ≡ q)
  writes_unique a b c d r q g h = go (or_dec (test_dec w v) (short_dec len 1))
    where
      go : Dec (ShortTest w v ⊎ (length len < 1)) → (a ≡ b) × (c ≡ d) × (r ≡ q)
      go (yes s) =
          let (r1, a1, c1) = g.short s in
          let (r2, a2, c2) = h.short s in
          (a1 ∙ sym a2, c1 ∙ sym c2, r1 ∙ sym r2)
      go (no s) = (
        x.file ∙ sym y.file,
        x.size ∙ ap (λ (n : ℕ). words_after n ((test_answer (test_at w v) (length bytes)).value ∷ []) len) same ∙ sym y.size,
        same,
      )
        where
          x : WrittenTest (test_at w v) bytes len a c r
          x = g.served s

          y : WrittenTest (test_at w v) bytes len b d q
          y = h.served s

          same : r ≡ q
          same = x.number ∙ sym y.number

  pub writes_exists : (a : List ℕ) × (c : List ℕ) × (r : ℕ) × WritesTest w v bytes len a c r
  writes_exists = go (or_dec (test_dec w v) (short_dec len 1))
    where
      go : Dec (ShortTest w v ⊎ (length len < 1)) → (a : List ℕ) × (c : List ℕ) × (r : ℕ) × WritesTest w v bytes len a c r
      go (yes s) = (bytes, len, 100, record { short = λ _. (refl, refl, refl); served = λ n. absurd (n s) })
      go (no s) = (
        test_buffer (test_at w v) bytes,
        words_after (test_answer (test_at w v) (length bytes)).refusal ((test_answer (test_at w v) (length bytes)).value ∷ []) len,
        (test_answer (test_at w v) (length bytes)).refusal,
        record {
          short = λ y. absurd (s y);
          served = λ _. record {
            number = refl;
            file = refl;
            size = refl;
            back = λ z. test_back (test_at w v) bytes _ (rows_size 3 w) (beside_length (word_at w 0) v) z refl;
          };
        },
      )

-- ---- comparing
module _ (wa : List ℕ) (va : List ℤ) (wb : List ℕ) (vb : List ℤ) (out : List ℕ) where
  equals_dec : Dec (ShortTest wa va ⊎ (ShortTest wb vb ⊎ (length out < 1)))
  equals_dec = or_dec (test_dec wa va) (or_dec (test_dec wb vb) (short_dec out 1))

  pub equals_unique : (a b : List ℕ) (r q : ℕ) → Equals wa va wb vb out a r → Equals wa va wb vb out b q → (a ≡ b) × (r ≡ q)
  equals_unique = gives_unique out equals_dec (compared_unique (test_at wa va) (test_at wb vb))

  pub equals_exists : (x : Result Bool Refusal) → ComparedAs (test_at wa va) (test_at wb vb) x → (a : List ℕ) × (r : ℕ) × Equals wa va wb vb out a r
  equals_exists = gives_exists out equals_dec
