-- What a refusal reads as where a program prints it: "refused", and its number.
use Rattle.std.specs.Prelude.{List, ℕ, ◌++◌, codes}
use Rattle.std.specs.Fmt.{decimal}
use Rattle.refusals.specs.Answers.{number}
use Rattle.refusals.specs.declared.Refusal.{Refusal}

abbrev pub printed : Refusal → List ℕ
printed why = codes "refused " ++ decimal (number why)
