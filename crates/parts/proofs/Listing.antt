-- Calls of any machine with a law of its calls, where what is still to come is of the part first and then is not: what they hand out of the part is a front
-- of it, and all of it once the part is over (`calls-in`); and all that they hand out is of it while the picks say so (`calls-inside`). The laws are those of
-- crate `rules`: `call_law` for rules 1 to 5 (`rules_law`), and `call_kept` for the run that hands over the kept sets alone (`keeping_law`).
use mathlib.Core.Path.{◌≡◌, refl, sym, ap, ap₂, ◌∙◌, subst}
use mathlib.Core.Bool.{Bool, true, false, not, ◌||◌, cond}
use mathlib.Core.List.{List, [], ◌∷◌, ◌++◌, map, Memᴰ, head-eq_of_cons-eq, tail-eq_of_cons-eq}
use Prim.Native.Nat.{ℕ}
use Rattle.basics.proofs.Clash.{clash}
use Rattle.rules.specs.Sequences.{All}
use Rattle.rules.specs.Machine.{Ended, State, Move, at}
use Rattle.rules.specs.ByNumber.{move}
use Rattle.rules.specs.Calls.{Reply, refused, spent, handed, end, Call, answered, handouts, call_by, calls_by}
use Rattle.rules.specs.ByNumber.{call}
use Rattle.rules.specs.Keeping.{move_keeping}
use Rattle.rules.specs.private.Fitting.{Fits}
use Rattle.rules.proofs.Trees.{Tree}
use Rattle.rules.proofs.Calls.{ahead, call_law}
use Rattle.rules.proofs.Keeping.{ahead as ahead_kept, ahead_ended, call_kept}
use Rattle.rules.proofs.Renaming.{renamed_call}
use Rattle.parts.specs.Calls.{adds, closes, holds, of_part, is_over, left_picks}

nil_front : (a b : List (List ℕ)) → a ++ b ≡ [] → a ≡ []
nil_front [] b e = refl
nil_front (x ∷ a) b e = clash cc

-- ---- any machine
-- l is a front of the list a, and all of it where it is over
pub record Lists (a l : List (List ℕ)) (over : Bool) : Type 0 where
  pub front : (rest : List (List ℕ)) × (l ++ rest ≡ a)
  pub complete : over ≡ true → l ≡ a

-- a call keeps a good state and what is still to come, of which nothing is left after an end
pub record Law (good : State → Type 0) (ahead : State → List (List ℕ)) (s : State) (c : Call) : Type 0 where
  pub stays : good c.next
  pub keeps : answered c.answer (ahead c.next) ≡ ahead s
  pub ended : c.answer ≡ end → ahead c.next ≡ []

module _ (mv : State → Move) (out : List ℕ → List ℕ) (good : State → Type 0) (ahead : State → List (List ℕ)) (test inside : List ℕ → Bool)
    (law : (b : ℕ) (s : State) → good s → Law good ahead s (call_by mv out b s)) where
  -- once the picks do not tell of the part, nothing of it is to come; what is to come is of the part, all of a, and then is not, all of b
  module _ (past : (s : State) → good s → inside s.picks ≡ false → All (λ (x : List ℕ). test x ≡ false) (ahead s)) where
    pub calls-in : (bs : List ℕ) (s : State) → good s → (a b : List (List ℕ)) → ahead s ≡ a ++ b
        → All (λ (x : List ℕ). test x ≡ true) a → All (λ (x : List ℕ). test x ≡ false) b
        → Lists a (of_part test (calls_by mv out bs s)) (is_over test inside (calls_by mv out bs s))
    calls-in [] s g a b e p q = record { front = (a, refl); complete = λ z. clash cc }
    calls-in (k ∷ bs) s g a b e p q =
        let l = law k s g in
        go (call_by mv out k s).answer a (l.keeps ∙ e) p l.ended (λ a'. calls-in bs (call_by mv out k s).next l.stays a' b)
      where
        later : List Call
        later = calls_by mv out bs (call_by mv out k s).next

        next : List (List ℕ)
        next = ahead (call_by mv out k s).next

        left : Bool
        left = inside (call_by mv out k s).next.picks

        -- a spent call from which on nothing of the part is to come
        closed : (a : List (List ℕ)) → next ≡ a ++ b → All (λ (x : List ℕ). test x ≡ true) a → All (λ (x : List ℕ). test x ≡ false) next
            → {over : Bool} → Lists a (of_part test later) over → Lists a (of_part test later) true
        closed [] d p n h = record { front = h.front; complete = λ _. nil_front (of_part test later) h.front.0 h.front.1 }
        closed (y ∷ a) d p n h =
            let f : test y ≡ false = (subst (All (λ (x : List ℕ). test x ≡ false)) d n).0 in
            let c : true ≡ false = sym p.0 ∙ f in
            clash cc

        spends : (i : Bool) → left ≡ i → (a : List (List ℕ)) → next ≡ a ++ b → All (λ (x : List ℕ). test x ≡ true) a
            → Lists a (of_part test later) (is_over test inside later) → Lists a (of_part test later) (not i || is_over test inside later)
        spends true e a d p h = h
        spends false e a d p h = closed a d p (past (call_by mv out k s).next (law k s g).stays e) h

        go : (r : Reply) (a : List (List ℕ)) → answered r next ≡ a ++ b → All (λ (x : List ℕ). test x ≡ true) a → (r ≡ end → next ≡ [])
            → ((a' : List (List ℕ)) → next ≡ a' ++ b → All (λ (x : List ℕ). test x ≡ true) a' → All (λ (x : List ℕ). test x ≡ false) b
            → Lists a' (of_part test later) (is_over test inside later))
            → Lists a (adds r (holds test r) (of_part test later)) (closes r (holds test r) left || is_over test inside later)
        go (refused n) a d p z on = on a d p q
        go spent a d p z on = spends left refl a d p (on a d p q)
        go (handed x) [] d p z on =
            let w : All (λ (y : List ℕ). test y ≡ false) (x ∷ next) = subst (All (λ (y : List ℕ). test y ≡ false)) (sym d) q in
            let f : test x ≡ false = w.0 in
            rw f (record { front = ([], refl); complete = λ _. refl })
        go (handed x) (y ∷ a) d p z on =
            let i : x ≡ y = head-eq_of_cons-eq d in
            let f : test x ≡ true = ap test i ∙ p.0 in
            let h = on a (tail-eq_of_cons-eq d) p.1 q in
            rw f (record {
              front = (h.front.0, ap₂ (λ (u : List ℕ) (m : List (List ℕ)). u ∷ m) i h.front.1);
              complete = λ o. ap₂ (λ (u : List ℕ) (m : List (List ℕ)). u ∷ m) i (h.complete o);
            })
        go end [] d p z on = record { front = ([], refl); complete = λ _. refl }
        go end (y ∷ a) d p z on = let w : ◌≡◌ {A = List (List ℕ)} [] (y ∷ (a ++ b)) = sym (z refl) ∙ d in clash cc

  -- where nothing is to come nothing is handed out
  none_later : (bs : List ℕ) (s : State) → good s → ahead s ≡ [] → handouts (calls_by mv out bs s) ≡ []
  none_later [] s g e = refl
  none_later (k ∷ bs) s g e =
      let l = law k s g in
      go (call_by mv out k s).answer (l.keeps ∙ e) (λ d. none_later bs (call_by mv out k s).next l.stays d)
    where
      go : (r : Reply) → answered r (ahead (call_by mv out k s).next) ≡ []
          → (ahead (call_by mv out k s).next ≡ [] → handouts (calls_by mv out bs (call_by mv out k s).next) ≡ [])
          → answered r (handouts (calls_by mv out bs (call_by mv out k s).next)) ≡ []
      go (refused n) d on = on d
      go spent d on = on d
      go (handed x) d on = clash cc
      go end d on = on d

  -- the picks tell of what is handed out whether it is of the part, and once they do not tell of the part they never do
  module _ (mine : (b : ℕ) (s : State) → good s → (x : List ℕ) → (call_by mv out b s).answer ≡ handed x → inside (call_by mv out b s).next.picks ≡ test x)
      (Stays-out : (b : ℕ) (s : State) → good s → inside s.picks ≡ false → inside (call_by mv out b s).next.picks ≡ false) where
    out-at-last : (bs : List ℕ) (s : State) → good s → inside s.picks ≡ false → inside (left_picks s.picks (calls_by mv out bs s)) ≡ false
    out-at-last [] s g e = e
    out-at-last (k ∷ bs) s g e = out-at-last bs (call_by mv out k s).next (law k s g).stays (Stays-out k s g e)

    pub calls-inside : (bs : List ℕ) (s : State) → good s → inside (left_picks s.picks (calls_by mv out bs s)) ≡ true
        → of_part test (calls_by mv out bs s) ≡ handouts (calls_by mv out bs s)
    calls-inside [] s g e = refl
    calls-inside (k ∷ bs) s g e =
        let l = law k s g in
        go (call_by mv out k s).answer refl l.ended (calls-inside bs (call_by mv out k s).next l.stays e)
      where
        later : List Call
        later = calls_by mv out bs (call_by mv out k s).next

        kept : (x : List ℕ) (i : Bool) → test x ≡ i → (call_by mv out k s).answer ≡ handed x → of_part test later ≡ handouts later
            → cond i (x ∷ of_part test later) [] ≡ x ∷ handouts later
        kept x true t d h = ap (λ (m : List (List ℕ)). x ∷ m) h
        kept x false t d h =
            let f : false ≡ true = sym (out-at-last bs (call_by mv out k s).next (law k s g).stays (mine k s g x d ∙ t)) ∙ e in
            clash cc

        go : (r : Reply) → (call_by mv out k s).answer ≡ r → (r ≡ end → ahead (call_by mv out k s).next ≡ []) → of_part test later ≡ handouts later
            → adds r (holds test r) (of_part test later) ≡ answered r (handouts later)
        go (refused n) d z h = h
        go spent d z h = h
        go (handed x) d z h = kept x (test x) refl d h
        go end d z h = sym (none_later bs (call_by mv out k s).next (law k s g).stays (z refl))

-- ---- renamed calls answer the same
module _ (test : List ℕ → Bool) (f : ℕ → ℕ) where
  pub of_renamed : (cs : List Call) → of_part test (map (renamed_call f) cs) ≡ of_part test cs
  of_renamed [] = refl
  of_renamed (c ∷ cs) = ap (adds c.answer (holds test c.answer)) (of_renamed cs)

  pub over_renamed : (inside : List ℕ → Bool) (cs : List Call)
      → is_over test inside (map (renamed_call f) cs) ≡ is_over test (λ r. inside (map f r)) cs
  over_renamed inside [] = refl
  over_renamed inside (c ∷ cs) =
      ap (λ (x : Bool). closes c.answer (holds test c.answer) (inside (map f c.next.picks)) || x) (over_renamed inside cs)

  pub left_renamed : (p : List ℕ) (cs : List Call) → left_picks (map f p) (map (renamed_call f) cs) ≡ map f (left_picks p cs)
  left_renamed p [] = refl
  left_renamed p (c ∷ cs) = left_renamed c.next.picks cs

-- an end closes every part
pub over_end : (test inside : List ℕ → Bool) (cs : List Call) (c : Call) → Memᴰ c cs → c.answer ≡ end → is_over test inside cs ≡ true
over_end test inside [] c m h = elim m [ ]
over_end test inside (d ∷ cs) c (Memᴰ.head e) h = rw (sym (ap (λ (x : Call). x.answer) e) ∙ h)
over_end test inside (d ∷ cs) c (Memᴰ.tail m) h =
    go (closes d.answer (holds test d.answer) (inside d.next.picks)) (over_end test inside cs c m h)
  where
    go : (b : Bool) → is_over test inside cs ≡ true → (b || is_over test inside cs) ≡ true
    go true k = refl
    go false k = k

-- ---- the laws
module _ (kids : List ℕ → List ℕ) (out : List ℕ → List ℕ) (n : ℕ) (t : Tree kids n) where
  abbrev pub Good : State → Type 0
  Good x = Fits kids x.picks x.phase

  pub rules_law : (b : ℕ) (x : State) → Good x → Law Good (ahead kids out n) x (call kids out b x)
  rules_law b x h =
      let l = call_law kids out n t b x h in record {
        stays = l.fits;
        keeps = l.keeps;
        ended = λ e. let z : (call kids out b x).next ≡ at [] Ended = rw e at l.closed in ap (ahead kids out n) z;
      }

  pub keeping_law : (keep : List ℕ → Bool) (b : ℕ) (x : State) → Good x
      → Law Good (ahead_kept kids out keep n t) x (call_by (move_keeping (move kids) out keep) out b x)
  keeping_law keep b x h =
      let l = call_kept kids out keep n t b x h in record {
        stays = l.fits;
        keeps = l.keeps;
        ended =
            λ e. let z : (call_by (move_keeping (move kids) out keep) out b x).next ≡ at [] Ended = rw e at l.closed in
            ap (ahead_kept kids out keep n t) z ∙ ahead_ended kids out keep n t;
      }
