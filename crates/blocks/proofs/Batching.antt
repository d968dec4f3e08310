-- A batch with the greatest budget is so many calls with the greatest budget each: what it gives (`batch_made`), its
-- ladders as words (`ladders-joined`), and how long their files are.
--
-- In order: a call that is not spent is the same with every larger budget (`call_larger`); a batch as calls (`Made`),
-- of a run that omits nothing (`made_many`) and of one call (`made_one`); the words of ladders; the sets handed out
-- are the table's (`handed_all`), so their files are legal and short (`all_legal`, `files_most`, `files_first`).
--
-- Elsewhere: the turn that a batch is, OneTurn.antt.
use mathlib.Core.Path.{◌≡◌, refl, sym, ap, ◌∙◌, subst}
use mathlib.Core.Bool.{Bool, true, false, ◌||◌}
use mathlib.Core.List.{List, [], ◌∷◌, ◌++◌, append_assoc}
use Prim.Native.Nat.{ℕ, zero, suc, ◌+◌, ◌-◌, ◌*◌, ◌/◌, ◌≤◌, ◌<◌}
use native.Mathlib.Nat.{suc-mul, mul-one, mul-le-mul_left, mul-div_cancel, sub-zero, zero-sub, suc-sub-suc}
use native.Mathlib.Omega.{arith}
use lib.ListN.{length, take, drop, replicate, length-append}
use lib.Seq.{take_at, drop_at, drop-drop, length-take-le}
use Rattle.basics.proofs.Clash.{clash}
use Rattle.table.specs.declared.Table.{Table}
use Rattle.table.specs.Pairs.{Within}
use Rattle.table.specs.Tables.{Legal, table_rows, table_refusal, padded}
use Rattle.table.proofs.Legality.{legal_passes}
use Rattle.rules.specs.Machine.{State, Move, Given, nothing, hands, ends}
use Rattle.rules.specs.Sequences.{All}
use Rattle.rules.specs.Calls.{Reply, refused, spent, handed, end, Call, result, most_budget, proceed_by, carry_by, call_by, answered, handouts}
use Rattle.rules.proofs.Calls.{within_by}
use Rattle.rules.proofs.Reports.{only18_by}
use Rattle.lists.specs.Lists.{gauge_side}
use Rattle.lists.specs.OnTable.{hand_out, ReachedOn}
use Rattle.runs.specs.Calling.{arrangement}
use Rattle.runs.specs.Omitting.{moves_of}
use Rattle.runs.specs.Batches.{Tale, onward, batch_by, joined}
use Rattle.runs.specs.private.Either.{call_of}
use Rattle.runs.specs.private.Listing.{words_of}
use Rattle.runs.proofs.Carrying.{carry_most}
use Rattle.runs.proofs.Demands.{Started, reached_next}
use Rattle.file_writer.specs.Writing.{write_file}
use Rattle.file_writer.proofs.Sizes.{write_length, write_six}
use Rattle.blocks.specs.Filling.{pair_table, files, longest, calls, after, is_end, is_none, has}
use Rattle.blocks.specs.private.Turning.{shape, ladders, most_bytes, Lent, stopped, ended}
use Rattle.blocks.proofs.Chains.{pair_legal, handed_within, never_spent}

-- ---- a larger budget
module _ (mv : State → Move) (out : List ℕ → List ℕ) where
  carry_larger : (b c : ℕ) (s : State) → b ≤ c → ((carry_by mv out b s).answer ≡ spent → ⊥) → carry_by mv out c s ≡ carry_by mv out b s
  carry_larger zero c s l h = absurd (h refl)
  carry_larger (suc b) zero s l h = absurd (omega arith)
  carry_larger (suc b) (suc c) s l h = go (mv s).given (carry_larger b c (mv s).next (omega arith)) h
    where
      go : (g : Given) → (((carry_by mv out b (mv s).next).answer ≡ spent → ⊥) → carry_by mv out c (mv s).next ≡ carry_by mv out b (mv s).next)
          → ((proceed_by mv out (carry_by mv out b) g (mv s).next).answer ≡ spent → ⊥)
          → proceed_by mv out (carry_by mv out c) g (mv s).next ≡ proceed_by mv out (carry_by mv out b) g (mv s).next
      go nothing ih k = ap (λ (x : Call). result x.answer (suc x.moves) x.next) (ih k)
      go (hands p) ih k = refl
      go ends ih k = refl

  call_larger : (b c : ℕ) (s : State) → b ≤ c → c ≤ most_budget → ((call_by mv out b s).answer ≡ spent → ⊥) → call_by mv out c s ≡ call_by mv out b s
  call_larger b c s l m h =
      let e : call_by mv out b s ≡ carry_by mv out b s = within_by mv out b s (omega arith) in
      within_by mv out c s m ∙ carry_larger b c s l (λ z. h (ap (λ (x : Call). x.answer) e ∙ z)) ∙ sym e

  call_few : (b : ℕ) (s : State) → b ≤ most_budget → (call_by mv out b s).moves ≤ b
  call_few b s l = subst (λ (x : Call). x.moves ≤ b) (sym (within_by mv out b s l)) (carry_most mv out b s)

-- ---- a batch as calls

-- what a batch with room for k ladders gives is so many calls, each with the greatest budget: all but the last hand a
-- set out
pub record Made (t : Table) (order : List ℕ) (omit : Bool) (s : State) (k : ℕ) (u : Tale) : Type 0 where
  pub many : ℕ
  pub most : many ≤ k
  pub going : (i : ℕ) → i < many → has is_none (calls t order omit i s) ≡ false
  pub sets : u.sets ≡ handouts (calls t order omit many s)
  pub next : u.next ≡ after t order omit many s
  pub stop : stopped u.ending ≡ has is_none (calls t order omit many s)
  pub over : ended u.ending ≡ has is_end (calls t order omit many s)
  pub whole : stopped u.ending ≡ false → length u.sets ≡ k

module _ (t : Table) (order : List ℕ) (omit : Bool) where
  abbrev mv : State → Move
  mv = moves_of t (gauge_side t) (arrangement (gauge_side t) order) omit

  abbrev out : List ℕ → List ℕ
  out = hand_out (gauge_side t)

  abbrev batch : ℕ → ℕ → State → Tale
  batch k b s = batch_by mv out k b s

  made_none : (b : ℕ) (s : State) → Made t order omit s 0 (batch 0 b s)
  made_none b s = record {
    many = 0;
    most = omega arith;
    going = λ i l. absurd (omega arith);
    sets = refl;
    next = refl;
    stop = refl;
    over = refl;
    whole = λ e. refl;
  }

  module _ (s : State) where
    abbrev made : Call
    made = call_of t (gauge_side t) (arrangement (gauge_side t) order) omit most_budget s

    abbrev rest : ℕ → ℕ → Tale
    rest k b = batch k (b - made.moves) made.next

    -- a first call that hands a set out, and the rest of the batch
    made-handed : (k b : ℕ) (x : List ℕ) → made.answer ≡ handed x → Made t order omit made.next k (rest k b)
        → Made t order omit s (suc k) (onward mv out (batch k) b (handed x) made.moves made.next)
    made-handed k b x e h = record {
      many = suc h.many;
      most = omega (arith, h.most);
      going = going;
      sets = rw (e, ← h.sets) refl;
      next = h.next;
      stop = rw (e, ← h.stop) refl;
      over = rw (e, ← h.over) refl;
      whole = λ z. ap suc (h.whole z);
    }
      where
        going : (i : ℕ) → i < suc h.many → has is_none (calls t order omit i s) ≡ false
        going zero l = refl
        going (suc i) l = rw e (h.going i (omega arith))

    -- one that hands nothing out is the last
    made-last : (k b : ℕ) (a : Reply) → made.answer ≡ a → (u : Tale) → u.sets ≡ [] → u.next ≡ made.next → stopped u.ending ≡ true
        → is_none a ≡ true → ended u.ending ≡ is_end a → answered a [] ≡ [] → Made t order omit s (suc k) u
    made-last k b a e u z n d f o none = record {
      many = 1;
      most = omega arith;
      going = going;
      sets = rw (e, none) z;
      next = n;
      stop = rw (e, f) d;
      over = rw e (o ∙ sym (or-false (is_end a)));
      whole = λ y. let w : ◌≡◌ {A = Bool} true false = sym d ∙ y in clash cc;
    }
      where
        or-false : (c : Bool) → (c || false) ≡ c
        or-false true = refl
        or-false false = refl

        going : (i : ℕ) → i < 1 → has is_none (calls t order omit i s) ≡ false
        going zero l = refl
        going (suc i) l = absurd (omega arith)

    -- a call of the greatest budget, and the rest
    made-from : (k b : ℕ) → (made.answer ≡ spent → k ≡ 0) → ((x : List ℕ) → made.answer ≡ handed x → Made t order omit made.next k (rest k b))
        → Made t order omit s (suc k) (onward mv out (batch k) b made.answer made.moves made.next)
    made-from k b sp more = go made.answer refl
      where
        go : (a : Reply) → made.answer ≡ a → Made t order omit s (suc k) (onward mv out (batch k) b a made.moves made.next)
        go (refused n) e = absurd ((only18_by mv out most_budget s).else (omega arith) n e)
        go spent e = made-last k b spent e _ refl refl refl refl refl refl
        go (handed x) e = made-handed k b x e (more x e)
        go end e = made-last k b end e _ refl refl refl refl refl refl

  made_one : (s : State) → Made t order omit s 1 (batch 1 most_budget s)
  made_one s = made-from s 0 most_budget (λ e. refl) (λ x e. made_none (most_budget - (made s).moves) (made s).next)

-- of a run that omits nothing: 129 moves are enough for each call
made_many : (t : Table) (order : List ℕ) → Started gauge_side t order → (k b : ℕ) → 129 * k ≤ b → b ≤ most_budget → (s : State)
    → ReachedOn (gauge_side t) (arrangement (gauge_side t) order) s → Made t order false s k (batch t order false k b s)
made_many t order g zero b l m s h = made_none t order false b s
made_many t order g (suc k) b l m s h =
    subst
    (λ (c : Call). Made t order false s (suc k) (onward (mv t order false) (out t order false) (batch t order false k) b c.answer c.moves c.next))
    same
    (made-from t order false s k b (λ e. absurd (never_spent t order g most_budget (omega arith) (omega arith) s h e))
    (λ x e. made_many t order g k (b - (made t order false s).moves) (omega (arith, few)) (omega arith) (made t order false s).next
    (reached_next t (gauge_side t) (arrangement (gauge_side t) order) false most_budget s h)))
  where
    moves : State → Move
    moves = mv t order false

    enough : (call_by moves (hand_out (gauge_side t)) 129 s).answer ≡ spent → ⊥
    enough e = never_spent t order g 129 (omega arith) (omega arith) s h e

    same : made t order false s ≡ call_by moves (hand_out (gauge_side t)) b s
    same = call_larger moves (hand_out (gauge_side t)) b most_budget s m (omega arith) (λ e. never_spent t order g b (omega arith) m s h e)

    few : (made t order false s).moves ≤ 129
    few =
        subst (λ (c : Call). c.moves ≤ 129) (sym (call_larger moves (hand_out (gauge_side t)) 129 most_budget s (omega arith) (omega arith) enough))
        (call_few moves (hand_out (gauge_side t)) 129 s (omega arith))

-- of any run: of one that omits it is one call
pub batch_made : (t : Table) (order : List ℕ) (omit : Bool) → Started gauge_side t order → (k : ℕ) → k ≤ 1024 → (omit ≡ true → k ≡ 1) → (s : State)
    → ReachedOn (gauge_side t) (arrangement (gauge_side t) order) s → Made t order omit s k (batch t order omit k most_budget s)
batch_made t order true g k l one s h = subst (λ (n : ℕ). Made t order true s n (batch t order true n most_budget s)) (sym (one refl)) (made_one t order true s)
batch_made t order false g k l one s h = made_many t order g k most_budget (omega arith) (omega arith) s h

-- ---- the words lent: of no table, of one ladder, and of so many

lent_times : (g l : ℕ) (omit : Bool) (room k : ℕ) → 1 ≤ g → k * g ≤ 1024 → 1 ≤ k → (omit ≡ true → k ≡ 1)
    → (k - 1) * most_bytes g l + longest ≤ room → Lent g l omit room (k * g)
lent_times g l omit room k a few some one called = record {
  few = few;
  one = λ b c d e. is ∙ one e;
  some = λ b c d. (omega (arith, is), omega (arith, is, k-few));
  called = λ b c d. subst (λ (n : ℕ). (n - 1) * most_bytes g l + longest ≤ room) (sym is) called;
}
  where
    is : k * g / g ≡ k
    is = mul-div_cancel k a

    k-few : k ≤ 1024
    k-few = omega (arith, mul-le-mul_left k a, mul-one k, few)

-- ---- ladders as words
pub ladders-joined : (g : ℕ) (xs : List (List ℕ)) (rest : List ℕ) → All (λ (x : List ℕ). length x ≡ g) xs → ladders g (length xs) (joined xs ++ rest) ≡ xs
ladders-joined g [] rest a = refl
ladders-joined g (x ∷ xs) rest a =
    rw (append_assoc x (joined xs) rest, take_at x (joined xs ++ rest) g a.0, drop_at x (joined xs ++ rest) g a.0, ladders-joined g xs rest a.1) refl

-- one ladder more
pub ladders_more : (g n : ℕ) (words : List ℕ) → ladders g (n + 1) words ≡ ladders g n words ++ (take g (drop (words_of g n) words) ∷ [])
unfolding words_of
ladders_more g zero words = refl
ladders_more g (suc n) words =
    let e : suc n + 1 ≡ suc (n + 1) = omega arith in
    rw (e, ladders_more g n (drop g words), drop-drop (words_of g n) g words) refl

pub joined_words : (g : ℕ) (xs : List (List ℕ)) → All (λ (x : List ℕ). length x ≡ g) xs → words_of g (length xs) ≡ length (joined xs)
unfolding words_of
joined_words g [] a = refl
joined_words g (x ∷ xs) a = omega (arith, joined_words g xs a.1, a.0, length-append x (joined xs))

drop_zeros : (n m : ℕ) → drop {A = ℕ} n (replicate m 0) ≡ replicate (m - n) 0
drop_zeros zero m = rw (sub-zero m) refl
drop_zeros (suc n) zero = rw (zero-sub (suc n)) refl
drop_zeros (suc n) (suc m) = drop_zeros n m ∙ ap (λ (k : ℕ). replicate k 0) (sym (suc-sub-suc m n))

-- words at the front of 64 zeros are padded
pub front_padded : (vs : List ℕ) (g : ℕ) → g ≤ length vs → g ≤ 64 → take g vs ++ drop g (replicate 64 0) ≡ padded (take g vs)
front_padded vs g h k =
    let e : length (take g vs) ≡ g = length-take-le g vs h in
    ap (λ (l : List ℕ). take g vs ++ l) (drop_zeros g 64 ∙ ap (λ (n : ℕ). replicate (64 - n) 0) (sym e))

-- the files of sets take G and L alone from the table
pub files-shape : (t : Table) (xs : List (List ℕ)) → files (shape t.gauges t.cases) xs ≡ files t xs
files-shape t [] = refl
files-shape t (x ∷ xs) = ap (λ (y : List ℕ). write_file (pair_table t x) ++ y) (files-shape t xs)

-- ---- the sets handed out
pub handed_all : (t : Table) (order : List ℕ) (omit : Bool) (n : ℕ) (s : State) → All (Within (table_rows t)) (handouts (calls t order omit n s))
handed_all t order omit zero s = tt
handed_all t order omit (suc n) s = go (made t order omit s).answer refl (handed_all t order omit n (made t order omit s).next)
  where
    later : List (List ℕ)
    later = handouts (calls t order omit n (made t order omit s).next)

    go : (a : Reply) → (made t order omit s).answer ≡ a → All (Within (table_rows t)) later → All (Within (table_rows t)) (answered a later)
    go (refused k) e h = h
    go spent e h = h
    go (handed x) e h = (handed_within t order omit s x e, h)
    go end e h = h

pub handed_most : (t : Table) (order : List ℕ) (omit : Bool) (n : ℕ) (s : State) → length (handouts (calls t order omit n s)) ≤ n
handed_most t order omit zero s = omega arith
handed_most t order omit (suc n) s = go (made t order omit s).answer (handed_most t order omit n (made t order omit s).next)
  where
    go : (a : Reply) → length (handouts (calls t order omit n (made t order omit s).next)) ≤ n
        → length (answered a (handouts (calls t order omit n (made t order omit s).next))) ≤ suc n
    go (refused k) h = omega arith
    go spent h = omega arith
    go (handed x) h = omega arith
    go end h = omega arith

module _ (t : Table) (l : Legal t) where
  pub all_legal : (xs : List (List ℕ)) → All (Within (table_rows t)) xs
      → All (λ (x : List ℕ). table_refusal (pair_table (shape t.gauges t.cases) x) ≡ 0) xs
  all_legal [] a = tt
  all_legal (x ∷ xs) a = (legal_passes (pair_table t x) (pair_legal t l x a.0), all_legal xs a.1)

  pub files_most : (xs : List (List ℕ)) → All (Within (table_rows t)) xs → length (files t xs) ≤ length xs * most_bytes t.gauges t.cases
  files_most [] a = omega arith
  files_most (x ∷ xs) a =
      omega (
        arith,
        length-append (write_file (pair_table t x)) (files t xs),
        write_six (pair_table t x) (pair_legal t l x a.0),
        files_most xs a.1,
        suc-mul (length xs) (most_bytes t.gauges t.cases),
      )

  pub files_first : (xs : List (List ℕ)) → All (Within (table_rows t)) xs
      → length (files t xs) ≤ (length xs - 1) * most_bytes t.gauges t.cases + longest
  files_first [] a = omega arith
  files_first (x ∷ xs) a =
      let e : length (x ∷ xs) - 1 ≡ length xs = omega arith in
      rw e
      (omega (
        arith,
        length-append (write_file (pair_table t x)) (files t xs),
        write_length (pair_table t x) (pair_legal t l x a.0),
        files_most xs a.1,
      ))
