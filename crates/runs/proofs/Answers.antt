-- What holds of the answers, from what is proved of the calls by the rules where the answers are theirs: that they hand out a list, of either kind of
-- run (`hands_out`), and demand 3 (`told_demand`).
use mathlib.Core.Path.{◌≡◌, refl, sym, ap, ap₂, ◌∙◌, subst}
use mathlib.Core.Bool.{Bool, false}
use mathlib.Core.List.Memᴰ
use mathlib.Core.List.{List, [], ◌∷◌, ◌++◌, map, Memᴰ}
use Prim.Native.Nat.{ℕ, ◌≤◌, ◌<◌}
use native.Mathlib.Decide.{dec_le}
use native.Mathlib.Omega.{arith}
use Rattle.basics.proofs.Clash.{clash}
use Rattle.table.specs.declared.Table.{Table}
use Rattle.rules.specs.Machine.{State, fresh, Move}
use Rattle.rules.specs.Calls.{Reply, refused, spent, handed, end, Call, most_budget, answered, handouts, moves_until, is_hand_out, is_hand_out_or_end}
use Rattle.rules.specs.private.Reports.{EachCall, Only18, WholeBy, SpentBy}
use Rattle.rules.specs.Sequences.{All}
use Rattle.lists.specs.Lists.{Side}
use Rattle.lists.specs.OnTable.{hand_out, move_on}
use Rattle.lists.specs.Demand.{gap_limit}
use Rattle.lists.specs.private.Demand.{Demand}
use Rattle.runs.specs.Calling.{Step, refusal_step, by_rules, told}
use Rattle.runs.specs.Demand.{handed_sets, Ends, reported, Each, HandsOut, Demand3}

module _ (t : Table) (y : Side) (k : List ℕ) (omit : Bool) where
  abbrev tell : Call → Step
  tell c = told t y k omit c

  answer_told : (a : Reply) (m : ℕ) (s : State) → (by_rules t y k omit a m s).answer ≡ a
  answer_told (refused n) m s = refl
  answer_told spent m s = refl
  answer_told (handed x) m s = refl
  answer_told end m s = refl

  tell-answer : (c : Call) → (tell c).answer ≡ c.answer
  tell-answer c = answer_told c.answer c.moves c.next

  -- a refused call made no move
  abbrev Still : Call → Type 0
  Still c = (n : ℕ) → c.answer ≡ refused n → c.moves ≡ 0

  moves_told : (a : Reply) (m : ℕ) (s : State) → ((n : ℕ) → a ≡ refused n → m ≡ 0) → (by_rules t y k omit a m s).moves ≡ m
  moves_told (refused n) m s h = sym (h n refl)
  moves_told spent m s h = refl
  moves_told (handed x) m s h = refl
  moves_told end m s h = refl

  sets_are : (cs : List Call) → handed_sets (map tell cs) ≡ handouts cs
  sets_are [] = refl
  sets_are (c ∷ cs) = ap₂ answered (tell-answer c) (sets_are cs)

  reported_are : (stops : Reply → Bool) (cs : List Call) → All Still cs → reported stops (map tell cs) ≡ moves_until stops cs
  reported_are stops [] h = refl
  reported_are stops (c ∷ cs) h = rw (moves_told c.answer c.moves c.next h.0, tell-answer c, reported_are stops cs h.1) refl

  stills : (bs : List ℕ) (x : State) (cs : List Call) → EachCall Only18 bs x cs → All Still cs
  stills [] x [] e = tt
  stills [] x (c ∷ cs) e = absurd e
  stills (b ∷ bs) x [] e = absurd e
  stills (b ∷ bs) x (c ∷ cs) e = (one (dec_le b most_budget), stills bs c.next cs e.1)
    where
      one : Dec (b ≤ most_budget) → Still c
      one (yes l) n a = absurd (e.0.else l n a)
      one (no l) n a = ap (λ (d : Call). d.moves) (e.0.above (omega arith))

  -- the calls that some of the answers are of
  record Split (cs : List Call) (sooner later : List Step) (r : Step) : Type 0 where
    before : List Call
    call : Call
    behind : List Call
    parts : cs ≡ before ++ (call ∷ behind)
    is_call : tell call ≡ r
    is_later : map tell behind ≡ later
    still : All Still behind

  split : (cs : List Call) (sooner later : List Step) (r : Step) → All Still cs → map tell cs ≡ sooner ++ (r ∷ later) → Split cs sooner later r
  split [] [] later r h e = clash cc
  split [] (x ∷ sooner) later r h e = clash cc
  split (d ∷ cs) [] later r h e =
      record { before = []; call = d; behind = cs; parts = refl; is_call = (let z : tell d ≡ r = cc in z); is_later = cc; still = h.1 }
  split (d ∷ cs) (x ∷ sooner) later r h e =
      let p = split cs sooner later r h.1 cc in
      record {
        before = d ∷ p.before;
        call = p.call;
        behind = p.behind;
        parts = ap (λ (l : List Call). d ∷ l) p.parts;
        is_call = p.is_call;
        is_later = p.is_later;
        still = p.still;
      }

  ends_are : (cs : List Call) → Ends (map tell cs) → (c : Call) × Memᴰ c cs × (c.answer ≡ end)
  ends_are cs (r, m, e) =
      let q = Memᴰ.of_map tell cs m in (q.0, q.1, sym (tell-answer q.0) ∙ ap (λ (x : Step). x.answer) q.2 ∙ e)

  module _ (mv : State → Move) (out : List ℕ → List ℕ) where
    each18 : (bs : List ℕ) (x : State) (cs : List Call) → EachCall Only18 bs x cs → Each (λ b r. most_budget < b → r ≡ refusal_step 18) bs (map tell cs)
    each18 [] x [] e = tt
    each18 [] x (c ∷ cs) e = absurd e
    each18 (b ∷ bs) x [] e = absurd e
    each18 (b ∷ bs) x (c ∷ cs) e = (λ l. ap tell (e.0.above l), each18 bs c.next cs e.1)

    each-else : (bs : List ℕ) (x : State) (cs : List Call) → EachCall Only18 bs x cs
        → Each (λ b r. b ≤ most_budget → (n : ℕ) → r.answer ≡ refused n → ⊥) bs (map tell cs)
    each-else [] x [] e = tt
    each-else [] x (c ∷ cs) e = absurd e
    each-else (b ∷ bs) x [] e = absurd e
    each-else (b ∷ bs) x (c ∷ cs) e = (λ l n a. e.0.else l n (sym (tell-answer c) ∙ a), each-else bs c.next cs e.1)

    each_spent : (bs : List ℕ) (x : State) (cs : List Call) → EachCall Only18 bs x cs
        → EachCall (λ b x c. b ≤ most_budget → SpentBy mv b x c) bs x cs → Each (λ b r. r.answer ≡ spent → r.moves ≡ b) bs (map tell cs)
    each_spent [] x [] e f = tt
    each_spent [] x (c ∷ cs) e f = absurd e
    each_spent (b ∷ bs) x [] e f = absurd e
    each_spent (b ∷ bs) x (c ∷ cs) e f = (λ a. one (dec_le b most_budget) (sym (tell-answer c) ∙ a), each_spent bs c.next cs e.1 f.1)
      where
        one : Dec (b ≤ most_budget) → c.answer ≡ spent → (tell c).moves ≡ b
        one (yes l) a = moves_told c.answer c.moves c.next (λ n g. absurd (e.0.else l n g)) ∙ ((f.0 l).only a).0
        one (no l) a =
            let g : c.answer ≡ refused 18 = ap (λ (d : Call). d.answer) (e.0.above (omega arith)) in
            clash cc

    each_within : (bs : List ℕ) (x : State) (cs : List Call) → EachCall Only18 bs x cs
        → EachCall (λ b x c. b ≤ most_budget → WholeBy mv out b x c) bs x cs → Each (λ b r. r.moves ≤ b) bs (map tell cs)
    each_within [] x [] e f = tt
    each_within [] x (c ∷ cs) e f = absurd e
    each_within (b ∷ bs) x [] e f = absurd e
    each_within (b ∷ bs) x (c ∷ cs) e f = (one (dec_le b most_budget), each_within bs c.next cs e.1 f.1)
      where
        one : Dec (b ≤ most_budget) → (tell c).moves ≤ b
        one (yes l) = rw (moves_told c.answer c.moves c.next (λ n g. absurd (e.0.else l n g))) (f.0 l).most
        one (no l) = rw (e.0.above (omega arith)) (omega arith)

    pub hands_out : (list : List (List ℕ)) (bs : List ℕ) (cs : List Call) → EachCall Only18 bs fresh cs
        → EachCall (λ b x c. b ≤ most_budget → WholeBy mv out b x c) bs fresh cs → EachCall (λ b x c. b ≤ most_budget → SpentBy mv b x c) bs fresh cs
        → (rest : List (List ℕ)) × (handouts cs ++ rest ≡ list) → ((c : Call) → Memᴰ c cs → c.answer ≡ end → handouts cs ≡ list)
        → HandsOut list bs (map tell cs)
    hands_out list bs cs only whole used front complete = record {
      front = (front.0, ap (λ (x : List (List ℕ)). x ++ front.0) (sets_are cs) ∙ front.1);
      whole = λ e. let c = ends_are cs e in sets_are cs ∙ complete c.0 c.1 c.2;
      only18 = each18 bs fresh cs only;
      no_other = each-else bs fresh cs only;
      budget = each_spent bs fresh cs only used;
      within = each_within bs fresh cs only whole;
    }

pub told_demand : (t : Table) (y : Side) (k o bs : List ℕ) (cs : List Call) → Demand t y o bs cs → Demand3 t y o bs (map (told t y k false) cs)
told_demand t y k o bs cs d =
    let still = stills t y k false bs fresh cs d.hands.only18 in record {
      list = d.hands.list;
      listed = d.hands.listed;
      hands = hands_out t y k false (move_on y o) (hand_out y) d.hands.list bs cs d.hands.only18 d.hands.whole d.hands.spent
          d.hands.front d.hands.complete;
      few = d.few;
      start = rw (reported_are t y k false is_hand_out cs still) d.start;
      gap = λ sooner later r x e h.
          let p = split t y k false cs sooner later r still e in
          subst (λ (l : List Step). reported is_hand_out_or_end l ≤ gap_limit y.count) p.is_later
          (rw (reported_are t y k false is_hand_out_or_end p.behind p.still)
          (d.gap p.before p.behind p.call x p.parts
          (sym (tell-answer t y k false p.call) ∙ ap (λ (q : Step). q.answer) p.is_call ∙ h)));
    }
