-- What a call says of its moves (01, "A run call has a budget .. It answers "spent" exactly when .."), for a call c with the budget b from
-- the state x, and of each call of a list; `mv` is the rule for a move. Demand 3 in crate `lists` claims these of every call.
use Rattle.std.specs.Prelude.{◌≡◌, ◌≢◌, List, [], ◌∷◌, ℕ, zero, suc, ◌-◌, ◌≤◌, ◌<◌}
use Rattle.rules.specs.Machine.{State, Given, nothing, hands, ends, Move, after_by}
use Rattle.rules.specs.ByNumber.{move}
use Rattle.rules.specs.Calls.{Reply, refused, spent, handed, end, Call, result, most_budget}

-- P holds of each call, with its budget and the state that it gets; x is the state that the first gets
abbrev pub EachCall : (ℕ → State → Call → Type 0) → List ℕ → State → List Call → Type 0
EachCall P [] x [] = Unit {0}
EachCall P [] x (c ∷ cs) = ⊥
EachCall P (b ∷ bs) x [] = ⊥
EachCall P (b ∷ bs) x (c ∷ cs) = P b x c × EachCall P bs c.next cs

-- refused exactly where the budget is above 1,000,000, and then with 18, no move, and the state as it was
pub record Only18 (b : ℕ) (x : State) (c : Call) : Type 0 where
  pub above : most_budget < b → c ≡ result (refused 18) 0 x
  pub else : b ≤ most_budget → (k : ℕ) → c.answer ≢ refused k

-- the answer where the last move gave g
abbrev pub says : (List ℕ → List ℕ) → Given → Reply
says out nothing = spent
says out (hands p) = handed (out p)
says out ends = end

module _ (mv : State → Move) where
  -- none of the first k moves from the state x is a hand-out or an end
  abbrev pub QuietBy : ℕ → State → Type 0
  QuietBy k x = (i : ℕ) → i < k → (mv (after_by mv i x)).given ≡ nothing

  -- what the last of k moves from the state x gives; nothing where none is made
  abbrev pub last_by : ℕ → State → Given
  last_by zero x = nothing
  last_by (suc k) x = (mv (after_by mv k x)).given

  -- the whole budget of moves is made, unless a hand-out or an end, the first one, is the last move made; the answer says what that move gave
  pub record WholeBy (out : List ℕ → List ℕ) (b : ℕ) (x : State) (c : Call) : Type 0 where
    pub most : c.moves ≤ b
    pub leads : c.next ≡ after_by mv c.moves x
    pub sooner : QuietBy (c.moves - 1) x
    pub last : c.answer ≡ says out (last_by c.moves x)
    pub stops : c.moves < b → last_by c.moves x ≢ nothing

  -- "spent" exactly when as many moves as the budget were made and none was a hand-out or an end
  pub record SpentBy (b : ℕ) (x : State) (c : Call) : Type 0 where
    pub only : c.answer ≡ spent → (c.moves ≡ b) × QuietBy b x
    pub always : c.moves ≡ b → QuietBy b x → c.answer ≡ spent

-- the same by rules 1 to 5
module _ (kids : List ℕ → List ℕ) where
  abbrev pub Quiet : ℕ → State → Type 0
  Quiet k x = QuietBy (move kids) k x

  abbrev pub Whole : (List ℕ → List ℕ) → ℕ → State → Call → Type 0
  Whole out b x c = WholeBy (move kids) out b x c

  abbrev pub Spent : ℕ → State → Call → Type 0
  Spent b x c = SpentBy (move kids) b x c
