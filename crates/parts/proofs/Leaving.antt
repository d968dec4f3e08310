-- When the machine of a tree has left the leaves below a sequence q: from q in the phase Down on, its picks start
-- with q, or it is past every leaf below q and stays so (`Left`, `stands_move`, `left_move`). So where the picks no
-- longer start with q, nothing below q comes later, whatever the run hands over.
--
-- In order: sequences with one more at their end; what a move keeps; what calls keep (`call_keeps`); what a call
-- leaves that hands out (`call_hands`).
use mathlib.Core.Path.{◌≡◌, refl, sym, ap, ◌∙◌, subst}
use mathlib.Core.Logic.{◌⊎◌, inl, inr}
use mathlib.Core.Bool.{Bool, true, false, cond}
use mathlib.Core.List.Memᴰ
use mathlib.Core.List.{List, [], ◌∷◌, ◌++◌, head?, append_assoc, append-nil, Memᴰ}
use Prim.Native.Nat.{ℕ, zero, suc, ◌-◌}
use native.Mathlib.Omega.{arith}
use lib.Dec.{ltb}
use lib.ListN.{length, length-append}
use Rattle.basics.proofs.Clash.{clash}
use Rattle.rules.specs.Sequences.{All}
use Rattle.rules.specs.Machine.{Down, Handed, Back, Ended, Phase, State, at, Cut, empty, cut, cut_last, take_back, down, back, Given, nothing, hands, ends, Move}
use Rattle.rules.specs.ByNumber.{above, step, move}
use Rattle.rules.specs.Calls.{Reply, refused, handed, Call, result, most_budget, proceed_by, carry_by, call_by}
use Rattle.rules.specs.Keeping.{taken, move_keeping}
use Rattle.rules.specs.private.Fitting.{Valid, Fits}
use Rattle.rules.proofs.Sequences.{All_get}
use Rattle.rules.proofs.Trees.{by_last, cut_snoc, length_snoc, each, Tree}
use Rattle.rules.proofs.Progress.{rest, listed, move_rest}
use Rattle.parts.specs.Parts.{StartsWith}
use Rattle.parts.proofs.BelowLeaves.{below_start, below_some, below, beyond, around}

-- ---- one more at the end
starts_more : (q r : List ℕ) (g : ℕ) → StartsWith q r → StartsWith q (r ++ (g ∷ []))
starts_more q r g h = record {
  rest = h.rest ++ (g ∷ []);
  is = ap (λ (l : List ℕ). l ++ (g ∷ [])) h.is ∙ append_assoc q h.rest (g ∷ []);
}

-- what starts with q without its last number still does, unless it is q
starts_less : (q r : List ℕ) (g : ℕ) → StartsWith q (r ++ (g ∷ [])) → StartsWith q r ⊎ (q ≡ r ++ (g ∷ []))
starts_less q r g h = by_last (λ (s : List ℕ). r ++ (g ∷ []) ≡ q ++ s → StartsWith q r ⊎ (q ≡ r ++ (g ∷ [])))
    (λ e. inr (sym (append-nil q) ∙ sym e))
    (λ s x _ e. inl (record { rest = s; is = front (sym (cut_snoc r g) ∙ ap cut_last (e ∙ sym (append_assoc q s (x ∷ []))) ∙ cut_snoc (q ++ s) x) }))
    h.rest h.is
  where
    front : {a b : List ℕ} {x y : ℕ} → cut a x ≡ cut b y → a ≡ b
    front e = cc

module _ (kids : List ℕ → List ℕ) (n : ℕ) (t : Tree kids n) (q : List ℕ) (v : Valid kids q) where
  abbrev to_come : State → List (List ℕ)
  to_come z = rest kids n z.picks z.phase

  -- the picks do not start with q, and what is still to come is the end of what is beyond q
  pub record Left (z : State) : Type 0 where
    pub outside : StartsWith q z.picks → ⊥
    pub passed : List (List ℕ)
    pub is : passed ++ to_come z ≡ beyond kids n t q

  abbrev pub Stands : State → Type 0
  Stands z = StartsWith q z.picks ⊎ Left z

  -- ---- what a move keeps
  none_beyond : All (λ (l : List ℕ). StartsWith q l → ⊥) (beyond kids n t q)
  none_beyond = (around kids n t q v).none-beyond

  -- a pick past q does not lead to q: the leaves below q are not beyond it
  pick_left : (p : List ℕ) (g : ℕ) (h : List (List ℕ)) → (StartsWith q p → ⊥) → h ++ to_come (at (p ++ (g ∷ [])) Down) ≡ beyond kids n t q
      → Left (at (p ++ (g ∷ [])) Down)
  pick_left p g h o e = record { outside = λ w. go (starts_less q p g w); passed = h; is = e }
    where
      go : StartsWith q p ⊎ (q ≡ p ++ (g ∷ [])) → ⊥
      go (inl w) = o w
      go (inr d) =
          let (l, m) = below_some kids (n - length (p ++ (g ∷ []))) (p ++ (g ∷ [])) in
          let s : StartsWith q l =
          subst (λ (x : List ℕ). StartsWith x l) (sym d)
          (All_get (StartsWith (p ++ (g ∷ []))) m (below_start kids (n - length (p ++ (g ∷ []))) (p ++ (g ∷ [])))) in
          All_get (λ (x : List ℕ). StartsWith q x → ⊥)
          (subst (λ (x : List (List ℕ)). Memᴰ l x) e (Memᴰ.append_right h (Memᴰ.append_left (rest kids n (p ++ (g ∷ [])) Handed) m))) none_beyond s

  -- taking back the last pick
  take_left : (p : List ℕ) (h : List (List ℕ)) → (StartsWith q p → ⊥) → h ++ to_come (take_back (cut_last p)).next ≡ beyond kids n t q
      → Left (take_back (cut_last p)).next
  take_left p h = by_last
      (λ (p : List ℕ). (StartsWith q p → ⊥) → h ++ to_come (take_back (cut_last p)).next ≡ beyond kids n t q → Left (take_back (cut_last p)).next)
      (λ o e. record { outside = o; passed = h; is = e })
      (λ p g _ o. rw (cut_snoc p g) (λ e. record { outside = λ w. o (starts_more q p g w); passed = h; is = e }))
      p

  take_stands : (p : List ℕ) → StartsWith q p → listed (take_back (cut_last p)).given (to_come (take_back (cut_last p)).next) ≡ rest kids n p Handed
      → Stands (take_back (cut_last p)).next
  take_stands p = by_last
      (λ (p : List ℕ). StartsWith q p → listed (take_back (cut_last p)).given (to_come (take_back (cut_last p)).next) ≡ rest kids n p Handed
      → Stands (take_back (cut_last p)).next)
      (λ w e. inl w)
      (λ p g _ w. rw (cut_snoc p g) (λ e. go p g (starts_less q p g w) e))
      p
    where
      go : (p : List ℕ) (g : ℕ) → StartsWith q p ⊎ (q ≡ p ++ (g ∷ [])) → to_come (at p (Back g)) ≡ rest kids n (p ++ (g ∷ [])) Handed → Stands (at p (Back g))
      go p g (inl w) e = inl w
      go p g (inr d) e = inr (record {
        outside = λ w. omega (arith, ap length d, length_snoc p g, ap length w.is, length-append q w.rest);
        passed = [];
        is = e ∙ ap (λ (x : List ℕ). rest kids n x Handed) (sym d);
      })

  -- what a move gives goes to what is passed
  pass : (g : Given) (h a b : List (List ℕ)) → listed g a ≡ b → h ++ b ≡ beyond kids n t q → (k : List (List ℕ)) × (k ++ a ≡ beyond kids n t q)
  pass nothing h a b e d = (h, ap (λ (x : List (List ℕ)). h ++ x) e ∙ d)
  pass (hands p) h a b e d = (h ++ (p ∷ []), append_assoc h (p ∷ []) a ∙ ap (λ (x : List (List ℕ)). h ++ x) e ∙ d)
  pass ends h a b e d = (h, ap (λ (x : List (List ℕ)). h ++ x) e ∙ d)

  pub left_move : (z : State) → Fits kids z.picks z.phase → Left z → Left (move kids z).next
  left_move z f l = by z.picks z.phase l.outside
      (pass (move kids z).given l.passed (to_come (move kids z).next) (to_come z) (move_rest kids n t z.picks z.phase f) l.is)
    where
      by : (p : List ℕ) (f : Phase) → (StartsWith q p → ⊥) → (h : List (List ℕ)) × (h ++ to_come (step kids p f).next ≡ beyond kids n t q)
          → Left (step kids p f).next
      by p Down o w = go (kids p) w
        where
          go : (k : List ℕ) → (h : List (List ℕ)) × (h ++ to_come (down p (head? k)).next ≡ beyond kids n t q) → Left (down p (head? k)).next
          go [] w = record { outside = o; passed = w.0; is = w.1 }
          go (g ∷ gs) w = pick_left p g w.0 o w.1
      by p Handed o w = take_left p w.0 o w.1
      by p (Back g) o w = go (above g (kids p)) w
        where
          go : (k : List ℕ) → (h : List (List ℕ)) × (h ++ to_come (back p (head? k)).next ≡ beyond kids n t q) → Left (back p (head? k)).next
          go [] w = take_left p w.0 o w.1
          go (x ∷ xs) w = pick_left p x w.0 o w.1
      by p Ended o w = record { outside = o; passed = w.0; is = w.1 }

  pub stands_move : (z : State) → Fits kids z.picks z.phase → Stands z → Stands (move kids z).next
  stands_move z f (inr l) = inr (left_move z f l)
  stands_move z f (inl h) = by z.picks z.phase h (move_rest kids n t z.picks z.phase f)
    where
      by : (p : List ℕ) (f : Phase) → StartsWith q p → listed (step kids p f).given (to_come (step kids p f).next) ≡ rest kids n p f
          → Stands (step kids p f).next
      by p Down h e = go (kids p)
        where
          go : (k : List ℕ) → Stands (down p (head? k)).next
          go [] = inl h
          go (g ∷ gs) = inl (starts_more q p g h)
      by p Handed h e = take_stands p h e
      by p (Back g) h e = go (above g (kids p)) e
        where
          go : (k : List ℕ) → listed (back p (head? k)).given (to_come (back p (head? k)).next) ≡ each (below kids n t) p k ++ rest kids n p Handed
              → Stands (back p (head? k)).next
          go [] e = take_stands p h e
          go (x ∷ xs) e = inl (starts_more q p x h)
      by p Ended h e = inl h

-- ---- what calls keep
module _ (mv : State → Move) (out : List ℕ → List ℕ) where
  -- what every move keeps
  pub call_keeps : (P : State → Type 0) → ((z : State) → P z → P (mv z).next) → (b : ℕ) (z : State) → P z → P (call_by mv out b z).next
  unfolding call_by
  call_keeps P keeps b z h = go (ltb most_budget b)
    where
      carried : (b : ℕ) (z : State) → P z → P (carry_by mv out b z).next
      carried zero z h = h
      carried (suc b) z h = by (mv z).given (keeps z h) (carried b (mv z).next (keeps z h))
        where
          by : (g : Given) → P (mv z).next → P (carry_by mv out b (mv z).next).next → P (proceed_by mv out (carry_by mv out b) g (mv z).next).next
          by nothing k m = m
          by (hands p) k m = k
          by ends k m = k

      go : (x : Bool) → P (cond x (result (refused 18) 0 z) (carry_by mv out b z)).next
      go true = h
      go false = carried b z h

  -- a call that hands out leaves the picks of what it hands out, where moves do
  pub call_hands : ((z : State) (p : List ℕ) → (mv z).given ≡ hands p → (mv z).next ≡ at p Handed)
      → (b : ℕ) (z : State) (x : List ℕ) → (call_by mv out b z).answer ≡ handed x
      → (p : List ℕ) × (out p ≡ x) × ((call_by mv out b z).next ≡ at p Handed)
  unfolding call_by
  call_hands law b z x = go (ltb most_budget b)
    where
      Handing : Call → Type 0
      Handing c = c.answer ≡ handed x → (p : List ℕ) × (out p ≡ x) × (c.next ≡ at p Handed)

      same : {a b : List ℕ} → ◌≡◌ {A = Reply} (handed a) (handed b) → a ≡ b
      same e = cc

      carried : (b : ℕ) (z : State) → Handing (carry_by mv out b z)
      carried zero z e = clash cc
      carried (suc b) z e = by (mv z).given refl (carried b (mv z).next) e
        where
          by : (g : Given) → (mv z).given ≡ g → Handing (carry_by mv out b (mv z).next) → Handing (proceed_by mv out (carry_by mv out b) g (mv z).next)
          by nothing d m e = m e
          by (hands p) d m e = (p, same e, law z p d)
          by ends d m e = clash cc

      go : (y : Bool) → Handing (cond y (result (refused 18) 0 z) (carry_by mv out b z))
      go true e = clash cc
      go false e = carried b z e

-- rules 1 to 5 hand out where they are
pub move_hands : (kids : List ℕ → List ℕ) (z : State) (p : List ℕ) → (move kids z).given ≡ hands p → (move kids z).next ≡ at p Handed
move_hands kids z p = by z.picks z.phase
  where
    same : {a b : List ℕ} → ◌≡◌ {A = Given} (hands a) (hands b) → a ≡ b
    same e = cc

    taken : (c : Cut) → (take_back c).given ≡ hands p → (take_back c).next ≡ at p Handed
    taken empty e = clash cc
    taken (cut r g) e = clash cc

    by : (r : List ℕ) (f : Phase) → (step kids r f).given ≡ hands p → (step kids r f).next ≡ at p Handed
    by r Down e = go (kids r) e
      where
        go : (k : List ℕ) → (down r (head? k)).given ≡ hands p → (down r (head? k)).next ≡ at p Handed
        go [] e = ap (λ (x : List ℕ). at x Handed) (same e)
        go (g ∷ gs) e = clash cc
    by r Handed e = taken (cut_last r) e
    by r (Back g) e = go (above g (kids r)) e
      where
        go : (k : List ℕ) → (back r (head? k)).given ≡ hands p → (back r (head? k)).next ≡ at p Handed
        go [] e = taken (cut_last r) e
        go (x ∷ xs) e = clash cc
    by r Ended e = clash cc

-- and so does a run that omits
pub keeping_hands : (kids out : List ℕ → List ℕ) (keep : List ℕ → Bool) (z : State) (p : List ℕ)
    → (move_keeping (move kids) out keep z).given ≡ hands p → (move kids z).next ≡ at p Handed
keeping_hands kids out keep z p e = move_hands kids z p (given (move kids z).given e)
  where
    given : (g : Given) → taken out keep g ≡ hands p → g ≡ hands p
    given nothing e = clash cc
    given (hands r) e = go (keep (out r)) e
      where
        go : (k : Bool) → cond k (hands r) nothing ≡ hands p → hands r ≡ hands p
        go true e = e
        go false e = clash cc
    given ends e = clash cc
