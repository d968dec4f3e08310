-- What the entry gives that looks for the fewest ladders is there for every input (`covers_exists`), and is one thing only (`covers_unique`);
-- with slices no longer than their layouts it is the library's answer (`covers_served`).
--
-- Elsewhere: what holds of every entry, words/proofs/Answers; that the library's own function has one answer, `covers_some` and `covers_only` in
-- mechanisms/proofs/Answers.
use mathlib.Core.Path.{◌≡◌, refl, sym, ap, ap₂, ◌∙◌}
use mathlib.Core.Bool.{cond}
use mathlib.Core.Logic.{◌⊎◌}
use mathlib.Core.List.{List}
use Prim.Native.Nat.{ℕ, ◌≤◌, ◌<◌}
use lib.Dec.{eqb}
use lib.ListN.{length}
use Rattle.mechanisms.specs.Covering.{Reading, Covers}
use Rattle.mechanisms.proofs.Answers.{covers_only, covers_some}
use Rattle.words.specs.Layouts.{table_at}
use Rattle.words.proofs.Serving.{long_two}
use Rattle.words.proofs.Answers.{short_dec, or_dec}
use Rattle.words.proofs.Back.{rows_size}
use Rattle.c_covers.specs.Serving.{reply_number, with_cover, CoveredWords, CoversWords}
use Rattle.c_covers.proofs.Serving.{covers_short}

module _ (t : List ℕ) (b : ℕ) (out : List ℕ) where
  abbrev Short : Type 0
  Short = (length t < 66) ⊎ (length out < 523)

  cover_dec : Dec Short
  cover_dec = or_dec (short_dec t 66) (short_dec out 523)

  pub covers_unique : (x y : List ℕ) (r q : ℕ) → CoversWords t b out x r → CoversWords t b out y q → (x ≡ y) × (r ≡ q)
  covers_unique x y r q g h = go cover_dec
    where
      go : Dec Short → (x ≡ y) × (r ≡ q)
      go (yes s) = ((g.short s).1 ∙ sym (h.short s).1, (g.short s).0 ∙ sym (h.short s).0)
      go (no s) = (u.leaves ∙ ap₂ (λ (n : ℕ) (a : Reading). cond (eqb n 0) (with_cover a out) out) number same ∙ sym v.leaves, number)
        where
          u : CoveredWords (table_at 0 t) b out x r
          u = g.served s

          v : CoveredWords (table_at 0 t) b out y q
          v = h.served s

          same : u.answer ≡ v.answer
          same = covers_only (table_at 0 t) b u.answer v.answer u.covers v.covers

          number : r ≡ q
          number = u.number ∙ ap (λ (a : Reading). reply_number a.reply) same ∙ sym v.number

  pub covers_exists : (out' : List ℕ) × (r : ℕ) × CoversWords t b out out' r
  covers_exists = go cover_dec
    where
      served : ¬ Short → (a : Reading) × Covers (table_at 0 t) b a → (out' : List ℕ) × (r : ℕ) × CoversWords t b out out' r
      served s (a, c) = (
        cond (eqb (reply_number a.reply) 0) (with_cover a out) out,
        reply_number a.reply,
        record { short = λ y. absurd (s y); served = λ _. record { answer = a; covers = c; number = refl; leaves = refl } },
      )

      go : Dec Short → (out' : List ℕ) × (r : ℕ) × CoversWords t b out out' r
      go (yes s) = (out, 100, covers_short t b out s)
      go (no s) = served s (covers_some (table_at 0 t) (rows_size 2 t) b)

  -- 66 and 523 words are enough: it is the number and the words of the library's answer
  pub covers_served : 66 ≤ length t → 523 ≤ length out → (a : Reading) → Covers (table_at 0 t) b a → (out' : List ℕ) (r : ℕ) → CoversWords t b out out' r
      → (r ≡ reply_number a.reply) × (out' ≡ cond (eqb (reply_number a.reply) 0) (with_cover a out) out)
  covers_served lt lo a c out' r g =
      let (e, n) =
      covers_unique out' (cond (eqb (reply_number a.reply) 0) (with_cover a out) out) r (reply_number a.reply) g (record {
        short = λ y. absurd (long_two lt lo y);
        served = λ _. record { answer = a; covers = c; number = refl; leaves = refl };
      }) in (n, e)
