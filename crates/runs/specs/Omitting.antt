-- Run calls of the runs that omit (02, R-2: "let a run, by its end, hand out exactly the ladders that hold a deciding pair, in the same order"):
-- what each answers (`CalledEither`), and what holds of every list of calls from a fresh start (`RunOmits`). The fresh starts promise it
-- (`KeepsOmits`), and so does each run call (`CarriesOmits`), as they promise demand 3 of the runs that omit nothing.
use Rattle.std.specs.Prelude.{◌≡◌, ◌↔◌, Bool, true, false, ℕ}
use mathlib.Core.List.{List, [], ◌∷◌, ◌++◌, map, Memᴰ}
use Rattle.table.specs.declared.Table.{Table}
use Rattle.table.specs.Chains.{IsMaximal}
use Rattle.table.specs.Tables.{table_rows}
use Rattle.rules.specs.Machine.{State, fresh, Move}
use Rattle.rules.specs.Keeping.{kept_sets as kept_of}
use Rattle.lists.specs.Lists.{Side, PreferredList}
use Rattle.lists.specs.OnTable.{move_on}
use Rattle.lists.specs.Keeping.{keeping_on, call_keeping, calls_keeping, left_keeping}
use Rattle.conflicts.specs.Conflicts.{HoldsEssential}
use Rattle.conflicts.specs.Omitting.{keeps_of}
use Rattle.runs.specs.Paused.{Value, paused}
use Rattle.preference.specs.Preferences.{preferred_refusal}
use Rattle.runs.specs.Calling.{Step, arrangement, told, held, value_refusal, PausedAt, Called, CallsBy, last_value}
use Rattle.runs.specs.Demand.{HandsOut}

-- the moves of a run on the side s of the table t under the preference o: rules 1 to 5; of a run that omits the same ones, which give nothing at a
-- set that holds no essential pair
abbrev pub moves_of : Table → Side → List ℕ → Bool → State → Move
moves_of t s o false x = move_on s o x
moves_of t s o true x = keeping_on s o (keeps_of t) x

-- r is the answer of a call from the value v with the budget b: refusals as of the other runs; else what the rules give that omit the sets which hold
-- no essential pair
pub record CalledEither (side : Table → Side) (v : Value) (b : ℕ) (r : Step) : Type 0 where
  pub called : Called side v b r
  pub rules : v.omit ≡ true → value_refusal side v ≡ 0 → (s : State) → PausedAt side v s
      → r ≡ told v.table (side v.table) v.order true (call_keeping (side v.table) (held side v) (keeps_of v.table) b s)

abbrev pub CallsEither : (Table → Side) → Value → List ℕ → List Step → Type 0
CallsEither side v bs rs = CallsBy (CalledEither side) v bs rs

-- of a list of calls on the side of the table t, with the preference in k, from the value v, with budgets bs and answers rs: they hand out the side's
-- list without the ladders that hold no essential pair, "exactly the ladders that hold a deciding pair, in the same order"; and the rules give each
-- answer, and after the list the value last returned. No move limit is promised.
pub record RunOmits (side : Table → Side) (t : Table) (k : List ℕ) (v : Value) (bs : List ℕ) (rs : List Step) : Type 0 where
  pub list : List (List ℕ)
  pub listed : PreferredList t (side t) (arrangement (side t) k) list
  pub members : (x : List ℕ) → Memᴰ x (kept_of (keeps_of t) list) ↔ (IsMaximal (table_rows t) x × HoldsEssential (table_rows t) x)
  pub hands : HandsOut (kept_of (keeps_of t) list) bs rs
  pub each : rs ≡ map (told t (side t) k true) (calls_keeping (side t) (arrangement (side t) k) (keeps_of t) bs)
  pub last : last_value v rs ≡ paused t k true (left_keeping (side t) (arrangement (side t) k) (keeps_of t) bs)

-- every list of calls from v, the value of a fresh start that omits, on the table t with the preference in k, which 10, 11 and 27 do not refuse
abbrev pub KeepsOmits : (Table → Side) → Table → List ℕ → Value → Type 0
KeepsOmits side t k v =
    preferred_refusal t (side t).count k ≡ 0 → (bs : List ℕ) (rs : List Step) → CallsEither side v bs rs → RunOmits side t k v bs rs

-- every list of calls from such a start that leaves v, with the call added that has the budget b and the answer r
abbrev pub CarriesOmits : (Table → Side) → Value → ℕ → Step → Type 0
CarriesOmits side v b r =
    value_refusal side v ≡ 0 → (bs : List ℕ) (rs : List Step) → CallsEither side (paused v.table v.order true fresh) bs rs
    → last_value (paused v.table v.order true fresh) rs ≡ v
    → RunOmits side v.table v.order (paused v.table v.order true fresh) (bs ++ (b ∷ [])) (rs ++ (r ∷ []))
