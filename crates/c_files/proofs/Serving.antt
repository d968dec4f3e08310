-- The returns of the writer's entry.
use mathlib.Core.Path.{◌≡◌, refl, ap, sym, ◌∙◌}
use mathlib.Core.Logic.{◌⊎◌}
use mathlib.Core.List.{List, [], ◌∷◌}
use Prim.Native.Nat.{ℕ, ◌<◌}
use lib.ListN.{length, take}
use lib.Seq.{sets as stored}
use Rattle.refusals.specs.Answers.{Answer}
use Rattle.table.specs.declared.Table.{Table}
use Rattle.file_writer.specs.Writing.{write_answer, buffer_after}
use Rattle.words.specs.Layouts.{table_at, Put}
use Rattle.words.proofs.Back.{rows_size}
use Rattle.round_trip.specs.Back.{TableBack}
use Rattle.round_trip.proofs.Written.{table_back}
use Rattle.c_files.specs.Serving.{WritesTable}

pub writes_short : (w bytes len : List ℕ) → (length w < 66) ⊎ (length len < 1) → WritesTable w bytes len bytes len 100
writes_short w bytes len h = record { short = λ _. (refl, refl, refl); served = λ n. absurd (n h) }

-- the writer answered a, and left the bytes; n is the answer's number
module _ (w : List ℕ) (t : Table) (e : t ≡ table_at 0 w) (bytes bytes' len : List ℕ) (long : ¬ ((length w < 66) ⊎ (length len < 1))) (a : Answer ℕ)
    (d : a ≡ write_answer t (length bytes)) (b : bytes' ≡ buffer_after t bytes) (n : ℕ) (f : n ≡ a.refusal) where
  answer_is : a ≡ write_answer (table_at 0 w) (length bytes)
  answer_is = d ∙ ap (λ (x : Table). write_answer x (length bytes)) e

  file_is : bytes' ≡ buffer_after (table_at 0 w) bytes
  file_is = b ∙ ap (λ (x : Table). buffer_after x bytes) e

  number_is : n ≡ (write_answer (table_at 0 w) (length bytes)).refusal
  number_is = f ∙ ap (λ (x : Answer ℕ). x.refusal) answer_is

  reads_back : n ≡ 0 → TableBack (table_at 0 w) (take (write_answer (table_at 0 w) (length bytes)).value bytes')
  reads_back z = table_back (table_at 0 w) bytes bytes' (rows_size 2 w) (sym number_is ∙ z) file_is

  pub writes_done : (len' : List ℕ) (x : ℕ) → n ≡ 0 → x ≡ a.value → Put len 0 (x ∷ []) len' → WritesTable w bytes len bytes' len' 0
  writes_done len' x h g p = record {
    short = λ s. absurd (long s);
    served = λ _. record {
      number = sym h ∙ number_is;
      file = file_is;
      size = p.words ∙ ap (λ (y : ℕ). stored len 0 (y ∷ [])) (g ∙ ap (λ (z : Answer ℕ). z.value) answer_is);
      back = λ _. reads_back h;
    };
  }
