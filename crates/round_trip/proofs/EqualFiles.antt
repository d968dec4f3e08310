-- Equal tests and their files (02, R-11): legal tests are equal exactly when their written files are (`equal_files`), so also any two that were read
-- from files (`read_equal_files`).
use mathlib.Core.Path.{◌≡◌, sym, ap, ◌∙◌}
use mathlib.Core.List.{List}
use mathlib.Core.Logic.{◌↔◌}
use mathlib.Core.Bool.{true}
use Prim.Native.Nat.{ℕ}
use Rattle.refusals.specs.Answers.{Answer}
use Rattle.recorded.specs.Tests.{LegalTest}
use Rattle.recorded.specs.Equality.{EqualTests}
use Rattle.recorded.specs.declared.Test.{Test}
use Rattle.recorded.proofs.Equal.{same_equal, equal-same}
use Rattle.file_reader.specs.private.Reading.{read_recorded}
use Rattle.file_reader.proofs.Yielded.{recorded_sound}
use Rattle.file_writer.specs.TestFiles.{test_file}
use Rattle.round_trip.proofs.RoundTrip.{test_round_trip}

pub equal_files : (a b : Test) → LegalTest a → LegalTest b → EqualTests a b ↔ (test_file a ≡ test_file b)
equal_files a b la lb = (
  λ e. ap test_file (equal-same a b la lb e),
  λ e. same_equal a b (ap (λ (x : Answer Test). x.value) (sym (test_round_trip a la) ∙ ap (read_recorded true) e ∙ test_round_trip b lb)),
)

pub read_equal_files : (f g : List ℕ) → (read_recorded true f).refusal ≡ 0 → (read_recorded true g).refusal ≡ 0
    → EqualTests (read_recorded true f).value (read_recorded true g).value
    ↔ (test_file (read_recorded true f).value ≡ test_file (read_recorded true g).value)
read_equal_files f g e d =
    equal_files (read_recorded true f).value (read_recorded true g).value ((recorded_sound true f).given e).0 ((recorded_sound true g).given d).0
