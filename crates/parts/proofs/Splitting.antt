-- Parts that split a part. A part that the rules can reach is split by itself (`splits_itself`) and by the parts of its candidates (`splits_at`); one of the
-- parts that split a part may itself be split (`splits_within`). So whatever is had from the empty sequence by splitting one part after another splits the
-- whole list (`splits_whole`, `splits_more`, `splits_all`, `splits_times`).
--
-- In order: sequences that part and go on; one part split among others; the parts of the candidates; from the empty sequence on.
use mathlib.Core.Path.{◌≡◌, refl, sym, ap, ap₂, ◌∙◌, subst}
use mathlib.Core.Logic.{◌⊎◌, inl, inr}
use mathlib.Core.List.Memᴰ
use mathlib.Core.List.{List, [], ◌∷◌, ◌++◌, map, append_assoc, append-nil, Memᴰ}
use mathlib.Core.List.{concat-ne-nil, head-eq_of_cons-eq, tail-eq_of_cons-eq}
use Prim.Native.Nat.{ℕ, zero, suc, ◌<◌}
use Rattle.table.specs.declared.Table.{Table}
use Rattle.table.specs.Chains.{IsMaximal}
use Rattle.table.specs.Tables.{table_rows}
use Rattle.rules.specs.Sequences.{All, Sorted}
use Rattle.rules.specs.Machine.{Down, at}
use Rattle.rules.specs.private.Fitting.{ValidFrom, Valid}
use Rattle.rules.proofs.Sequences.{All_of, All_get, All_map, All_append, Sorted_append}
use Rattle.rules.proofs.Trees.{by_last, valid_up, valid_kid, valid_snoc}
use Rattle.rules.proofs.Renaming.{map_snoc}
use Rattle.lists.specs.Arrangements.{IsArrangement, place_of}
use Rattle.lists.specs.ByNumber.{candidates}
use Rattle.lists.specs.Preferred.{candidates_by}
use Rattle.lists.specs.Lists.{Side}
use Rattle.lists.specs.OnTable.{ReachedOn}
use Rattle.lists.specs.private.Arranging.{index_at, prefer}
use Rattle.lists.proofs.Standing.{place_index}
use Rattle.lists.proofs.CandidateTree.{candidate_tree}
use Rattle.lists.proofs.Listed.{picks_in_order}
use Rattle.lists.proofs.BothSides.{Fair}
use Rattle.lists.proofs.PlacedCandidates.{AllBelow, candidates-below}
use Rattle.parts.specs.Parts.{StartsWith, Parted, PartedIn, picks_of, Splits, extended, split_by, split_at, split_all, split_times}
use Rattle.parts.proofs.Prefixes.{starts_same, starts_trans, map_append}
use Rattle.parts.proofs.BelowLeaves.{sorted_right, sorted_cross, valid_drop}
use Rattle.parts.proofs.Places.{AtPlaces, valid_low, reached_at, at_reached, candidates_at, starts_places, leaf_of, maximal_picks}

-- ---- sequences that part, and go on
parted_left : (p q a : List ℕ) → Parted p q → Parted (p ++ a) q
parted_left [] q a h = absurd h
parted_left (x ∷ p) [] a h = absurd h
parted_left (x ∷ p) (y ∷ q) a (inl l) = inl l
parted_left (x ∷ p) (y ∷ q) a (inr h) = inr (h.0, parted_left p q a h.1)

parted_right : (p q b : List ℕ) → Parted p q → Parted p (q ++ b)
parted_right [] q b h = absurd h
parted_right (x ∷ p) [] b h = absurd h
parted_right (x ∷ p) (y ∷ q) b (inl l) = inl l
parted_right (x ∷ p) (y ∷ q) b (inr h) = inr (h.0, parted_right p q b h.1)

parted_last : (p : List ℕ) (x y : ℕ) → x < y → Parted (p ++ (x ∷ [])) (p ++ (y ∷ []))
parted_last [] x y l = inl l
parted_last (z ∷ p) x y l = inr (refl, parted_last p x y l)

module _ (o : List ℕ) where
  goes_left : (p p' q : List ℕ) → PartedIn o p q → StartsWith p p' → PartedIn o p' q
  goes_left p p' q h s = rw (s.is, map_append (place_of o) p s.rest) (parted_left (map (place_of o) p) (map (place_of o) q) (map (place_of o) s.rest) h)

  goes_right : (p q q' : List ℕ) → PartedIn o p q → StartsWith q q' → PartedIn o p q'
  goes_right p q q' h s = rw (s.is, map_append (place_of o) q s.rest) (parted_right (map (place_of o) p) (map (place_of o) q) (map (place_of o) s.rest) h)

-- ---- lists in pieces
module _ {A : Type 0} where
  all_left : (p : A → Type 0) (a b : List A) → All p (a ++ b) → All p a
  all_left p [] b h = tt
  all_left p (x ∷ a) b h = (h.0, all_left p a b h.1)

  all_right : (p : A → Type 0) (a b : List A) → All p (a ++ b) → All p b
  all_right p [] b h = h
  all_right p (x ∷ a) b h = all_right p a b h.1

  sorted_left : (r : A → A → Type 0) (a b : List A) → Sorted r (a ++ b) → Sorted r a
  sorted_left r [] b h = tt
  sorted_left r (x ∷ a) b h = (all_left (r x) a b h.0, sorted_left r a b h.1)

-- ---- p with each of some numbers at its end
module _ (p : List ℕ) where
  extended_all : (P : List ℕ → Type 0) (k : List ℕ) → ((g : ℕ) → Memᴰ g k → P (p ++ (g ∷ []))) → All P (extended p k)
  extended_all P [] h = tt
  extended_all P (g ∷ k) h = (h g (Memᴰ.head refl), extended_all P k (λ x m. h x (Memᴰ.tail m)))

  extended_mem : (k : List ℕ) (g : ℕ) → Memᴰ g k → Memᴰ (p ++ (g ∷ [])) (extended p k)
  extended_mem [] g m = elim m [ ]
  extended_mem (x ∷ k) g (Memᴰ.head e) = Memᴰ.head (ap (λ (y : ℕ). p ++ (y ∷ [])) e)
  extended_mem (x ∷ k) g (Memᴰ.tail m) = Memᴰ.tail (extended_mem k g m)

  extended_sorted : (o k : List ℕ) → Sorted (λ (g h : ℕ). place_of o g < place_of o h) k → Sorted (PartedIn o) (extended p k)
  extended_sorted o [] h = tt
  extended_sorted o (g ∷ k) h = (
    extended_all (PartedIn o (p ++ (g ∷ []))) k (λ x m.
        rw (map_snoc (place_of o) p g, map_snoc (place_of o) p x)
        (parted_last (map (place_of o) p) (place_of o g) (place_of o x) (All_get (λ (y : ℕ). place_of o g < place_of o y) m h.0))),
    extended_sorted o k h.1,
  )

-- two lists with a last element each
snoc_same : (a b : List ℕ) (x y : ℕ) → a ++ (x ∷ []) ≡ b ++ (y ∷ []) → (a ≡ b) × (x ≡ y)
snoc_same [] [] x y e = (refl, head-eq_of_cons-eq e)
snoc_same [] (z ∷ b) x y e = absurd (concat-ne-nil y b (sym (tail-eq_of_cons-eq e)))
snoc_same (z ∷ a) [] x y e = absurd (concat-ne-nil x a (tail-eq_of_cons-eq e))
snoc_same (z ∷ a) (w ∷ b) x y e =
    let r = snoc_same a b x y (tail-eq_of_cons-eq e) in (ap₂ (λ (u : ℕ) (l : List ℕ). u ∷ l) (head-eq_of_cons-eq e) r.0, r.1)

-- ---- one part split among others
module _ (t : Table) (s : Side) (o : List ℕ) where
  pub splits_itself : (q : List ℕ) → ReachedOn s o (at q Down) → Splits t s o q (q ∷ [])
  splits_itself q r = record {
    reached = (r, tt);
    within = (starts_same q, tt);
    ascends = (tt, tt);
    covers = λ x m h. (q, Memᴰ.head refl, h);
  }

  splits_within : (q : List ℕ) (a : List (List ℕ)) (p : List ℕ) (b ps : List (List ℕ)) → Splits t s o q (a ++ (p ∷ b)) → Splits t s o p ps
      → Splits t s o q (a ++ (ps ++ b))
  splits_within q a p b ps c d = record {
    reached = in_pieces Reached c.reached d.reached;
    within = in_pieces (StartsWith q) c.within (All_map (λ x h. starts_trans q p x (all_right (StartsWith q) a (p ∷ b) c.within).0 h) ps d.within);
    ascends = Sorted_append (PartedIn o) a (ps ++ b) (sorted_left (PartedIn o) a (p ∷ b) c.ascends)
        (Sorted_append (PartedIn o) ps b d.ascends right.1 (All_of (λ (x : List ℕ). All (PartedIn o x) b) ps after))
        (All_of (λ (x : List ℕ). All (PartedIn o x) (ps ++ b)) a before);
    covers = λ x m h. let r = c.covers x m h in settle x m r.0 r.2 (Memᴰ.append_cases a r.1);
  }
    where
      Reached : List ℕ → Type 0
      Reached x = ReachedOn s o (at x Down)

      in_pieces : (P : List ℕ → Type 0) → All P (a ++ (p ∷ b)) → All P ps → All P (a ++ (ps ++ b))
      in_pieces P h k = All_append P a (ps ++ b) (all_left P a (p ∷ b) h) (All_append P ps b k (all_right P a (p ∷ b) h).1)

      right : Sorted (PartedIn o) (p ∷ b)
      right = sorted_right (PartedIn o) a (p ∷ b) c.ascends

      -- those before p come before what starts with p, and what starts with p before those after it
      before : (x : List ℕ) → Memᴰ x a → All (PartedIn o x) (ps ++ b)
      before x m =
          All_append (PartedIn o x) ps b
          (All_of (PartedIn o x) ps (λ y k.
          goes_right o x p y (sorted_cross (PartedIn o) a (p ∷ b) c.ascends m (Memᴰ.head refl)) (All_get (StartsWith p) k d.within)))
          (All_of (PartedIn o x) b (λ y k. sorted_cross (PartedIn o) a (p ∷ b) c.ascends m (Memᴰ.tail k)))

      after : (x : List ℕ) → Memᴰ x ps → All (PartedIn o x) b
      after x m = All_of (PartedIn o x) b (λ y k. goes_left o p x y (All_get (PartedIn o p) k right.0) (All_get (StartsWith p) m d.within))

      settle : (x : List ℕ) → IsMaximal (table_rows t) x → (r : List ℕ) → StartsWith r (picks_of s o x) → Memᴰ r a ⊎ Memᴰ r (p ∷ b)
          → (z : List ℕ) × Memᴰ z (a ++ (ps ++ b)) × StartsWith z (picks_of s o x)
      settle x m r h (inl k) = (r, Memᴰ.append_left (ps ++ b) k, h)
      settle x m r h (inr k) = go (Memᴰ.cases_cons k)
        where
          go : (r ≡ p) ⊎ Memᴰ r b → (z : List ℕ) × Memᴰ z (a ++ (ps ++ b)) × StartsWith z (picks_of s o x)
          go (inl e) =
              let y = d.covers x m (subst (λ (z : List ℕ). StartsWith z (picks_of s o x)) e h) in
              (y.0, Memᴰ.append_right a (Memᴰ.append_left b y.1), y.2)
          go (inr j) = (r, Memᴰ.append_right a (Memᴰ.append_right ps j), h)

-- ---- the parts of the candidates
module _ (t : Table) (s : Side) (f : Fair t s) (o : List ℕ) (a : IsArrangement s.count o) where
  abbrev rows : List ℕ
  rows = (prefer o s).rows

  abbrev num : ℕ → ℕ
  num = index_at o

  module _ (p : List ℕ) (x : AtPlaces s o f.counted a p) where
    abbrev q : List ℕ
    q = x.places

    -- a candidate, by place
    candidate-place : (g : ℕ) → Memᴰ g (candidates_by o s.rows p) → (i : ℕ) × Memᴰ i (candidates rows q) × (num i ≡ g)
    candidate-place g m = Memᴰ.of_map num (candidates rows q) (subst (λ (l : List ℕ). Memᴰ g l) (candidates_at s o f.counted a p x) m)

    pub candidate-reached : (g : ℕ) → Memᴰ g (candidates_by o s.rows p) → ReachedOn s o (at (p ++ (g ∷ [])) Down)
    candidate-reached g m =
        let i = candidate-place g m in
        at_reached s o f.counted a (p ++ (g ∷ []))
        (record {
          places = q ++ (i.0 ∷ []);
          valid = valid_snoc (candidates rows) q i.0 x.valid i.1;
          is = map_snoc num q i.0 ∙ ap₂ (λ (l : List ℕ) (y : ℕ). l ++ (y ∷ [])) x.is i.2;
        })

    -- and what is reached with one pick more has a candidate there
    pub reached-candidate : (g : ℕ) → ReachedOn s o (at (p ++ (g ∷ [])) Down) → Memᴰ g (candidates_by o s.rows p)
    reached-candidate g r = go (reached_at s o f.counted a (p ++ (g ∷ [])) r)
      where
        last : (z : List ℕ) → Valid (candidates rows) z → map num z ≡ p ++ (g ∷ []) → Memᴰ g (candidates_by o s.rows p)
        last z = by_last (λ (z : List ℕ). Valid (candidates rows) z → map num z ≡ p ++ (g ∷ []) → Memᴰ g (candidates_by o s.rows p))
            (λ v e. absurd (concat-ne-nil g p (sym e)))
            (λ z i _ v e.
            let d : map num z ++ (num i ∷ []) ≡ p ++ (g ∷ []) = sym (map_snoc num z i) ∙ e in
            let c = snoc_same (map num z) p (num i) g d in
            let y : AtPlaces s o f.counted a p = record { places = z; valid = valid_up (candidates rows) z i v; is = c.0 } in
            subst (λ (l : List ℕ). Memᴰ g l) (sym (candidates_at s o f.counted a p y))
            (Memᴰ.cast (sym c.1) (Memᴰ.map num (valid_kid (candidates rows) z i v)))) z

        go : AtPlaces s o f.counted a (p ++ (g ∷ [])) → Memᴰ g (candidates_by o s.rows p)
        go y = last y.places y.valid y.is

    candidates-ascend : Sorted (λ (g h : ℕ). place_of o g < place_of o h) (candidates_by o s.rows p)
    candidates-ascend =
        subst (Sorted (λ (g h : ℕ). place_of o g < place_of o h)) (sym (candidates_at s o f.counted a p x))
        (by_index (candidates rows q) (candidates-below s.count o a s.rows f.counted q) ((candidate_tree rows).ascends q x.valid))
      where
        all-index : (i : ℕ) → i < s.count → (l : List ℕ) → AllBelow s.count l → All (λ (j : ℕ). i < j) l
            → All (λ (h : ℕ). place_of o (num i) < place_of o h) (map num l)
        all-index i b [] k h = tt
        all-index i b (j ∷ l) k h = (rw (place_index s.count o a i b, place_index s.count o a j k.0) h.0, all-index i b l k.1 h.1)

        by_index : (l : List ℕ) → AllBelow s.count l → Sorted ◌<◌ l → Sorted (λ (g h : ℕ). place_of o g < place_of o h) (map num l)
        by_index [] b h = tt
        by_index (i ∷ l) b h = (all-index i b.0 l b.1 h.0, by_index l b.1 h.1)

    -- a maximal chain of p, where there is a candidate after p, is of one of the candidates' parts
    next_pick : (y : List ℕ) → IsMaximal (table_rows t) y → StartsWith p (picks_of s o y) → (g : ℕ) → Memᴰ g (candidates_by o s.rows p)
        → (h : ℕ) × Memᴰ h (candidates_by o s.rows p) × StartsWith (p ++ (h ∷ [])) (picks_of s o y)
    next_pick y m h g k = go w.rest w.is
      where
        found : (l : List ℕ) × Memᴰ l (picks_in_order rows) × (picks_of s o y ≡ map num l)
        found = maximal_picks t s f o a y m

        l : List ℕ
        l = found.0

        leaf : Valid (candidates rows) l × (candidates rows l ≡ [])
        leaf = leaf_of t s f o a l found.1

        w : StartsWith q l
        w =
            starts_places s o f.counted a q l (valid_low s o f.counted a q x.valid) (valid_low s o f.counted a l leaf.0)
            (subst (λ (z : List ℕ). StartsWith z (map num l)) (sym x.is) (subst (StartsWith p) found.2 h))

        go : (r : List ℕ) → l ≡ q ++ r → (h : ℕ) × Memᴰ h (candidates_by o s.rows p) × StartsWith (p ++ (h ∷ [])) (picks_of s o y)
        go [] e = absurd (none (candidate-place g k))
          where
            none : (i : ℕ) × Memᴰ i (candidates rows q) × (num i ≡ g) → ⊥
            none (i, j, d) =
                let z : candidates rows q ≡ [] = subst (λ (v : List ℕ). candidates rows v ≡ []) (e ∙ append-nil q) leaf.1 in
                Memᴰ.not-nil (subst (λ (v : List ℕ). Memᴰ i v) z j)
        go (i ∷ r) e =
            let v : ValidFrom (candidates rows) q (i ∷ r) = valid_drop (candidates rows) [] q (i ∷ r) (subst (Valid (candidates rows)) e leaf.0) in (
              num i,
              subst (λ (z : List ℕ). Memᴰ (num i) z) (sym (candidates_at s o f.counted a p x)) (Memᴰ.map num v.0),
              record {
                rest = map num r;
                is = found.2 ∙ ap (map num) e ∙ map_append num q (i ∷ r) ∙ ap (λ (z : List ℕ). z ++ (num i ∷ map num r)) x.is
                    ∙ sym (append_assoc p (num i ∷ []) (map num r));
              },
            )

  pub splits_at : (p : List ℕ) → ReachedOn s o (at p Down) → Splits t s o p (split_at s o p)
  splits_at p r = go (candidates_by o s.rows p) refl
    where
      x : AtPlaces s o f.counted a p
      x = reached_at s o f.counted a p r

      go : (k : List ℕ) → candidates_by o s.rows p ≡ k → Splits t s o p (split_by p k)
      go [] e = splits_itself t s o p r
      go (g ∷ k) e = record {
        reached = extended_all p (λ (z : List ℕ). ReachedOn s o (at z Down)) (g ∷ k) (λ h m. candidate-reached p x h (mine h m));
        within = extended_all p (StartsWith p) (g ∷ k) (λ h m. record { rest = h ∷ []; is = refl });
        ascends = extended_sorted p o (g ∷ k) (subst (Sorted (λ (g h : ℕ). place_of o g < place_of o h)) e (candidates-ascend p x));
        covers = λ y m h. let n = next_pick p x y m h g (mine g (Memᴰ.head refl)) in
            (p ++ (n.0 ∷ []), extended_mem p (g ∷ k) n.0 (subst (λ (l : List ℕ). Memᴰ n.0 l) e n.1), n.2);
      }
        where
          mine : (h : ℕ) → Memᴰ h (g ∷ k) → Memᴰ h (candidates_by o s.rows p)
          mine h m = subst (λ (l : List ℕ). Memᴰ h l) (sym e) m

  -- ---- from the empty sequence on
  splits_whole : Splits t s o [] ([] ∷ [])
  splits_whole = splits_itself t s o [] (record { count = 0; leads = refl })

  pub splits_more : (q : List ℕ) (b : List (List ℕ)) (p : List ℕ) (c : List (List ℕ)) → Splits t s o q (b ++ (p ∷ c))
      → Splits t s o q (b ++ (split_at s o p ++ c))
  splits_more q b p c d =
      splits_within t s o q b p c (split_at s o p) d (splits_at p (all_right (λ (z : List ℕ). ReachedOn s o (at z Down)) b (p ∷ c) d.reached).0)

  -- those still to be split behind those that are
  all_behind : (q : List ℕ) (b ps : List (List ℕ)) → Splits t s o q (b ++ ps) → Splits t s o q (b ++ split_all s o ps)
  all_behind q b [] d = d
  all_behind q b (p ∷ ps) d =
      subst (Splits t s o q) (append_assoc b (split_at s o p) (split_all s o ps))
      (all_behind q (b ++ split_at s o p) ps (subst (Splits t s o q) (sym (append_assoc b (split_at s o p) ps)) (splits_more q b p ps d)))

  splits_all : (q : List ℕ) (ps : List (List ℕ)) → Splits t s o q ps → Splits t s o q (split_all s o ps)
  splits_all q ps d = all_behind q [] ps d

  pub splits_times : (d : ℕ) → Splits t s o [] (split_times s o d)
  splits_times zero = splits_whole
  splits_times (suc d) = splits_all [] (split_times s o d) (splits_times d)
