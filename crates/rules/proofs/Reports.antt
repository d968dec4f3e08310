-- What a call reports is what its moves did: budgets above 1,000,000 are refused and no others, the whole budget of moves is made
-- unless a hand-out or an end stops the call, and "spent" is answered exactly where neither came. All this of any rule for moves.
--
-- In order: what follows from `WholeBy`, and that it leaves one call (`whole_unique`); "spent" and each call of a list as a user reads them
-- (`exactly_by`, `each_count`); that the calls of the rule are so, one (`only18_by`, `spent_by`) and each of a list (`all_only18`, `all_whole`,
-- `all_spent`); that nothing else is (`one_list`); then the same by rules 1 to 5.
--
-- Pins, which nothing else cites: `each_count`, `spent_exactly`.
use mathlib.Core.Path.{◌≡◌, refl, sym, ap, ap₂, ◌∙◌}
use mathlib.Core.Logic.{◌↔◌, ◌≢◌}
use mathlib.Core.List.{List, [], ◌∷◌}
use Prim.Native.Nat.{ℕ, zero, suc, ◌-◌, ◌≤◌, ◌<◌}
use native.Mathlib.Decide.{ℕ_discrete, dec_lt, dec_le}
use native.Mathlib.Omega.{arith}
use lib.ListN.{length}
use Rattle.basics.proofs.Clash.{clash}
use Rattle.rules.specs.Machine.{State, Given, nothing, hands, ends, Move, after_by}
use Rattle.rules.specs.ByNumber.{move}
use Rattle.rules.specs.Calls.{Reply, refused, spent, Call, result, most_budget, proceed_by, carry_by, call_by, calls_by}
use Rattle.rules.specs.ByNumber.{call, calls_from}
use Rattle.rules.specs.private.Reports.{EachCall, Only18, says, QuietBy, last_by, WholeBy, SpentBy, Quiet, Whole, Spent}
use Rattle.rules.proofs.Calls.{above_by, within_by}

module _ (out : List ℕ → List ℕ) where
  says_never : (g : Given) (k : ℕ) → says out g ≢ refused k
  says_never nothing k e = clash cc
  says_never (hands p) k e = clash cc
  says_never ends k e = clash cc

  says_spent : (g : Given) → says out g ≡ spent → g ≡ nothing
  says_spent nothing e = refl
  says_spent (hands p) e = clash cc
  says_spent ends e = clash cc

module _ (mv : State → Move) where
  -- ---- the last move
  last_on : (k : ℕ) (s : State) → (mv s).given ≡ nothing → last_by mv k (mv s).next ≡ last_by mv (suc k) s
  last_on zero s e = sym e
  last_on (suc k) s e = refl

  last_quiet : (k : ℕ) (s : State) → QuietBy mv k s → last_by mv k s ≡ nothing
  last_quiet zero s q = refl
  last_quiet (suc k) s q = q k (omega arith)

  quiet_last : (k : ℕ) (s : State) → QuietBy mv (k - 1) s → last_by mv k s ≡ nothing → QuietBy mv k s
  quiet_last zero s q e i l = absurd (omega arith)
  quiet_last (suc k) s q e i l = go (ℕ_discrete i k)
    where
      go : Dec (i ≡ k) → (mv (after_by mv i s)).given ≡ nothing
      go (yes d) = rw d e
      go (no d) = q i (omega arith)

  quiet_on : (k : ℕ) (s : State) → (mv s).given ≡ nothing → QuietBy mv (k - 1) (mv s).next → QuietBy mv (suc k - 1) s
  quiet_on k s e q zero l = e
  quiet_on k s e q (suc i) l = q i (omega arith)

  module _ (out : List ℕ → List ℕ) (b : ℕ) (s : State) (c : Call) (w : WholeBy mv out b s c) where
    -- ---- what follows
    whole-never : (k : ℕ) → c.answer ≢ refused k
    whole-never k e = says_never out (last_by mv c.moves s) k (sym w.last ∙ e)

    whole-spent : SpentBy mv b s c
    whole-spent = record {
      only = λ e.
          let z : last_by mv c.moves s ≡ nothing = says_spent out (last_by mv c.moves s) (sym w.last ∙ e) in
          let m : c.moves ≡ b = all (dec_lt c.moves b) z in
          (m, rw m at (quiet_last c.moves s w.sooner z));
      always = λ e q. w.last ∙ ap (says out) (last_quiet c.moves s (λ i l. q i (omega arith)));
    }
      where
        all : Dec (c.moves < b) → last_by mv c.moves s ≡ nothing → c.moves ≡ b
        all (yes l) z = absurd (w.stops l z)
        all (no l) z = omega (arith, w.most)

    -- the moves determine the call
    whole_is : c ≡ result (says out (last_by mv c.moves s)) c.moves (after_by mv c.moves s)
    whole_is = ap₂ (λ (a : Reply) (x : State). result a c.moves x) w.last w.leads

    -- and no other call makes more
    whole-most : (d : Call) → WholeBy mv out b s d → c.moves < d.moves → ⊥
    whole-most d v l = w.stops (omega (arith, v.most)) (go c.moves refl)
      where
        go : (k : ℕ) → c.moves ≡ k → last_by mv k s ≡ nothing
        go zero e = refl
        go (suc k) e = v.sooner k (omega arith)

  pub whole_unique : (out : List ℕ → List ℕ) (b : ℕ) (s : State) (c d : Call) → WholeBy mv out b s c → WholeBy mv out b s d → c ≡ d
  whole_unique out b s c d w v =
      whole_is out b s c w
      ∙ ap (λ (k : ℕ). result (says out (last_by mv k s)) k (after_by mv k s)) (same (dec_lt c.moves d.moves) (dec_lt d.moves c.moves))
      ∙ sym (whole_is out b s d v)
    where
      same : Dec (c.moves < d.moves) → Dec (d.moves < c.moves) → c.moves ≡ d.moves
      same (yes l) m = absurd (whole-most out b s c w d v l)
      same (no l) (yes m) = absurd (whole-most out b s d v c w m)
      same (no l) (no m) = omega arith

-- ---- "spent", and each call of a list, as a user reads them
exactly_by : (mv : State → Move) (b : ℕ) (s : State) (c : Call) → SpentBy mv b s c → (c.answer ≡ spent) ↔ ((c.moves ≡ b) × QuietBy mv b s)
exactly_by mv b s c w = (w.only, λ h. w.always h.0 h.1)

-- there are as many calls as budgets
pub each_count : (P : ℕ → State → Call → Type 0) (bs : List ℕ) (s : State) (cs : List Call) → EachCall P bs s cs → length cs ≡ length bs
each_count P [] s [] e = refl
each_count P [] s (c ∷ cs) e = absurd e
each_count P (b ∷ bs) s [] e = absurd e
each_count P (b ∷ bs) s (c ∷ cs) e = ap suc (each_count P bs c.next cs e.1)

module _ (mv : State → Move) (out : List ℕ → List ℕ) where
  carry_whole : (b : ℕ) (s : State) → WholeBy mv out b s (carry_by mv out b s)
  carry_whole zero s = record { most = omega arith; leads = refl; sooner = λ i l. absurd (omega arith); last = refl; stops = λ l. absurd (omega arith) }
  carry_whole (suc b) s = go (carry_whole b (mv s).next) (mv s).given refl
    where
      go : WholeBy mv out b (mv s).next (carry_by mv out b (mv s).next) → (g : Given) → (mv s).given ≡ g
          → WholeBy mv out (suc b) s (proceed_by mv out (carry_by mv out b) g (mv s).next)
      go on nothing e = record {
        most = omega (arith, on.most);
        leads = on.leads;
        sooner = quiet_on mv (carry_by mv out b (mv s).next).moves s e on.sooner;
        last = on.last ∙ ap (says out) (last_on mv (carry_by mv out b (mv s).next).moves s e);
        stops = λ l z. on.stops (omega arith) (last_on mv (carry_by mv out b (mv s).next).moves s e ∙ z);
      }
      go on (hands p) e =
          record {
            most = omega arith;
            leads = refl;
            sooner = λ i l. absurd (omega arith);
            last = ap (says out) (sym e);
            stops = λ l z. clash cc;
          }
      go on ends e =
          record {
            most = omega arith;
            leads = refl;
            sooner = λ i l. absurd (omega arith);
            last = ap (says out) (sym e);
            stops = λ l z. clash cc;
          }

  -- ---- one call
  pub whole_by : (b : ℕ) (s : State) → b ≤ most_budget → WholeBy mv out b s (call_by mv out b s)
  whole_by b s l = rw (within_by mv out b s l) (carry_whole b s)

  pub only18_by : (b : ℕ) (s : State) → Only18 b s (call_by mv out b s)
  only18_by b s = record { above = above_by mv out b s; else = λ l. whole-never mv out b s (call_by mv out b s) (whole_by b s l) }

  spent_by : (b : ℕ) (s : State) → b ≤ most_budget → SpentBy mv b s (call_by mv out b s)
  spent_by b s l = whole-spent mv out b s (call_by mv out b s) (whole_by b s l)

  -- ---- each call of a list
  each_call : (P : ℕ → State → Call → Type 0) → ((b : ℕ) (s : State) → P b s (call_by mv out b s)) → (bs : List ℕ) (s : State)
      → EachCall P bs s (calls_by mv out bs s)
  each_call P h [] s = tt
  each_call P h (b ∷ bs) s = (h b s, each_call P h bs (call_by mv out b s).next)

  pub all_only18 : (bs : List ℕ) (s : State) → EachCall Only18 bs s (calls_by mv out bs s)
  all_only18 = each_call Only18 only18_by

  pub all_whole : (bs : List ℕ) (s : State) → EachCall (λ b x c. b ≤ most_budget → WholeBy mv out b x c) bs s (calls_by mv out bs s)
  all_whole = each_call (λ b x c. b ≤ most_budget → WholeBy mv out b x c) whole_by

  pub all_spent : (bs : List ℕ) (s : State) → EachCall (λ b x c. b ≤ most_budget → SpentBy mv b x c) bs s (calls_by mv out bs s)
  all_spent = each_call (λ b x c. b ≤ most_budget → SpentBy mv b x c) spent_by

  -- what is said of each call leaves the calls that the rules make, one for each budget
  pub one_list : (bs : List ℕ) (s : State) (cs : List Call) → EachCall Only18 bs s cs → EachCall (λ b x c. b ≤ most_budget → WholeBy mv out b x c) bs s cs
      → cs ≡ calls_by mv out bs s
  one_list [] s [] o w = refl
  one_list [] s (c ∷ cs) o w = absurd o
  one_list (b ∷ bs) s [] o w = absurd o
  one_list (b ∷ bs) s (c ∷ cs) o w = go (one (dec_le b most_budget)) (one_list bs c.next cs o.1 w.1)
    where
      one : Dec (b ≤ most_budget) → c ≡ call_by mv out b s
      one (yes l) = whole_unique mv out b s c (call_by mv out b s) (w.0 l) (whole_by b s l)
      one (no l) = o.0.above (omega arith) ∙ sym (above_by mv out b s (omega arith))

      go : c ≡ call_by mv out b s → cs ≡ calls_by mv out bs c.next → c ∷ cs ≡ call_by mv out b s ∷ calls_by mv out bs (call_by mv out b s).next
      go e d = ap₂ (λ (x : Call) (xs : List Call). x ∷ xs) e (d ∙ ap (λ (x : Call). calls_by mv out bs x.next) e)

-- ---- the same by rules 1 to 5
pub spent_exactly : (kids : List ℕ → List ℕ) (b : ℕ) (s : State) (c : Call) → Spent kids b s c → (c.answer ≡ spent) ↔ ((c.moves ≡ b) × Quiet kids b s)
spent_exactly kids = exactly_by (move kids)

module _ (kids : List ℕ → List ℕ) (out : List ℕ → List ℕ) where
  pub call_only18 : (b : ℕ) (s : State) → Only18 b s (call kids out b s)
  call_only18 = only18_by (move kids) out

  pub call_spent : (b : ℕ) (s : State) → b ≤ most_budget → Spent kids b s (call kids out b s)
  call_spent = spent_by (move kids) out

  pub calls_only18 : (bs : List ℕ) (s : State) → EachCall Only18 bs s (calls_from kids out bs s)
  calls_only18 = all_only18 (move kids) out

  pub calls_whole : (bs : List ℕ) (s : State) → EachCall (λ b x c. b ≤ most_budget → Whole kids out b x c) bs s (calls_from kids out bs s)
  calls_whole = all_whole (move kids) out

  pub calls_spent : (bs : List ℕ) (s : State) → EachCall (λ b x c. b ≤ most_budget → Spent kids b x c) bs s (calls_from kids out bs s)
  calls_spent = all_spent (move kids) out

  pub each_unique : (bs : List ℕ) (s : State) (cs : List Call) → EachCall Only18 bs s cs → EachCall (λ b x c. b ≤ most_budget → Whole kids out b x c) bs s cs
      → cs ≡ calls_from kids out bs s
  each_unique = one_list (move kids) out
