-- The contracts of the entries, from what each gives by value, on either side (`candidates_of`, `part_of`): what the
-- words give is in Reading.antt, and any choice of parts in Whole.antt.
use mathlib.Core.List.{List}
use Prim.Native.Nat.{ℕ}
use Rattle.table.specs.declared.Table.{Table}
use Rattle.lists.specs.Lists.{Side}
use Rattle.c_runs.proofs.Sides.{Startable}
use Rattle.c_parts.specs.Serving.{PutsCandidates, GivesCandidates, GivesPart}
use Rattle.c_parts.proofs.Reading.{lists_part_words, Given, part-back, part-read}
use Rattle.c_parts.proofs.Whole.{lists_whole_words}

pub candidates_of : (side : Table → Side) → Startable side → {n : ℕ} {w out out' : List ℕ} {r : ℕ} → PutsCandidates side n w out out' r
    → GivesCandidates side n w out out' r
candidates_of side all {n} {w} puts =
    record { gives = puts; lists = lists_part_words side all n w; whole = lists_whole_words side all n w }

part_by : (side : Table → Side) (all : Startable side) (n : ℕ) (w : List ℕ) (g : ℕ) (out out' : List ℕ) (r : ℕ) → Given side all n w g out out' r
    → GivesPart side n w g out out' r
part_by side all n w g out out' r given = record {
  gives = given;
  reads = part-read side all n w g out out' r given;
  lists = λ e. lists_part_words side all n out' (part-back side all n w g out out' r given e).long;
}

pub part_of : (side : Table → Side) (all : Startable side) {n : ℕ} {w : List ℕ} {g : ℕ} {out out' : List ℕ} {r : ℕ}
    → Given side all n w g out out' r → GivesPart side n w g out out' r
part_of side all {n} {w} {g} {out} {out'} {r} given = part_by side all n w g out out' r given
