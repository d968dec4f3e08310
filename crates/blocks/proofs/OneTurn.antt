-- One law for each return of the steps.
--
-- In order: what the rules give for a call (`same_answer`, `never_refused`); the check of a value (`checked_refused`);
-- a file put at a place (`put_refused`), and files one after another
-- (`put_none`, `put_more`); a turn: the ladders of its batch (`ladders_there`), and what it adds (`turned_batch`).
--
-- Elsewhere: what a batch gives, Batching.antt; turns one after another, Fillings.antt.
use mathlib.Core.Path.{◌≡◌, refl, sym, ap, ap₂, ◌∙◌, subst}
use mathlib.Core.Logic.{◌⊎◌, inl, inr}
use mathlib.Core.Bool.{Bool, true, false}
use mathlib.Core.List.{List, [], ◌∷◌, ◌++◌, append-nil, append_assoc}
use Prim.Native.Nat.{ℕ, ◌+◌, ◌-◌, ◌*◌, ◌/◌, ◌≤◌, ◌<◌}
use native.Mathlib.Nat.{add-zero, mul-le-mul_right}
use native.Mathlib.Omega.{arith}
use lib.ListN.{length, take, drop, length-append, length-drop, take-append-drop}
use lib.Seq.{take_all, take_at, length-take-le, drop-drop, drop-append-add}
use Rattle.basics.proofs.Clash.{clash}
use Rattle.table.specs.declared.Table.{Table}
use Rattle.table.specs.Pairs.{Within}
use Rattle.table.specs.Tables.{Legal, table_rows, table_refusal}
use Rattle.refusals.specs.Answers.{Answer as Reading, number}
use Rattle.refusals.specs.declared.Refusal.{Refusal}
use Rattle.refusals.proofs.Answering.{number_pos}
use Rattle.table.proofs.Legality.{legal_of}
use Rattle.rules.specs.Machine.{State}
use Rattle.rules.specs.Sequences.{All}
use Rattle.rules.specs.Calls.{Reply, refused, spent, handed, end, Call, most_budget, handouts}
use Rattle.rules.proofs.Reports.{only18_by}
use Rattle.lists.specs.Lists.{Side, gauge_side}
use Rattle.lists.specs.OnTable.{hand_out}
use Rattle.preference.proofs.Placing.{passes_both}
use Rattle.runs.specs.Paused.{Value, paused}
use Rattle.runs.specs.Calling.{Step, by_rules, told, refusal_step, held, value_refusal, PausedAt}
use Rattle.runs.specs.Omitting.{moves_of}
use Rattle.runs.specs.Batches.{Batch, Tale, denied, joined, Denied, Comes, batch_on, Batched}
use Rattle.runs.proofs.BatchSides.{not_denied}
use Rattle.runs.specs.private.Either.{call_of, CalledOf}
use Rattle.runs.specs.private.Listing.{words_of}
use Rattle.runs.proofs.BatchDeciding.{batched_cases, gauge_words}
use Rattle.runs.proofs.Demands.{Starts}
use Rattle.runs.proofs.Words.{words_more}
use Rattle.file_writer.specs.Writing.{write_file, write_refusal, write_answer}
use Rattle.file_writer.proofs.Files.{long_enough}
use Rattle.blocks.specs.Filling.{pair_table, files, longest, calls, text, Stops}
use Rattle.blocks.specs.private.Turning.{Checked, placed, Put, PutAll, shape, ladders, most_bytes, Lent, Added, Turned, stopped, ended}
use Rattle.blocks.proofs.Calls.{files_append, files_some}
use Rattle.blocks.proofs.Batching.{Made, batch_made, ladders-joined, ladders_more, joined_words, files-shape, handed_all, handed_most}
use Rattle.blocks.proofs.Batching.{all_legal, files_most, files_first}

-- ---- what the rules give for a call
told_answer : (t : Table) (y : Side) (order : List ℕ) (omit : Bool) (a : Reply) (k : ℕ) (s : State) → (by_rules t y order omit a k s).answer ≡ a
told_answer t y order omit (refused n) k s = refl
told_answer t y order omit spent k s = refl
told_answer t y order omit (handed x) k s = refl
told_answer t y order omit end k s = refl

module _ (v : Value) (b : ℕ) (r : Step) (c : CalledOf gauge_side v b r) (ok : value_refusal gauge_side v ≡ 0) (s : State) (p : PausedAt gauge_side v s) where
  abbrev made : Call
  made = call_of v.table (gauge_side v.table) (held gauge_side v) v.omit b s

  by_rules_lem : r ≡ told v.table (gauge_side v.table) v.order v.omit made
  by_rules_lem = c.rules ok s p

  same_answer : made.answer ≡ r.answer
  same_answer =
      sym (ap (λ (x : Step). x.answer) by_rules_lem
      ∙ told_answer v.table (gauge_side v.table) v.order v.omit made.answer made.moves made.next)

  never_refused : b ≤ most_budget → (n : ℕ) → r.answer ≡ refused n → ⊥
  never_refused l n e =
      (only18_by (moves_of v.table (gauge_side v.table) (held gauge_side v) v.omit) (hand_out (gauge_side v.table)) b s).else l n (same_answer ∙ e)

-- ---- the check of a value
refused_same : (r : Step) (n m : ℕ) → r.answer ≡ refused n → r ≡ refusal_step m → n ≡ m
refused_same r n m e d = let z : refused n ≡ refused m = sym e ∙ ap (λ (x : Step). x.answer) d in cc

pub checked_refused : (v : Value) (r : Step) → CalledOf gauge_side v 0 r → (n : ℕ) → r.answer ≡ refused n → Checked v n
checked_refused v r c n e = record {
  table = λ h. refused_same r n _ e (c.table h);
  value = λ z k. refused_same r n _ e (c.value z k);
  legal = λ z s p. absurd (never_refused v 0 r c z s p (omega arith) n e);
}

module _ (t : Table) (before : List ℕ) (at : ℕ) (low : at ≤ length before) where
  -- the part of the buffer that is lent, and the buffer with the part put back
  abbrev part : List ℕ
  part = take (length before - at) (drop at before)

  abbrev back : List ℕ → List ℕ
  back ys = take at before ++ (ys ++ drop (length before - at) (drop at before))

  part_is : part ≡ drop at before
  part_is = take_all (length before - at) (drop at before) (omega (arith, length-drop at before))

  part-length : length part ≡ length before - at
  part-length = ap length part_is ∙ length-drop at before

  pub put_refused : (why : Refusal) (now : List ℕ) → record { refusal = number why; value = 0 } ≡ write_answer t (length part) → Put t before at at now
  put_refused why now e =
      let z : number why ≡ write_refusal t (length part) = ap (λ (a : Reading ℕ). a.refusal) e in
      record {
        inside = low;
        file = λ ok room.
            let x : write_refusal t (length part) ≡ 0 = long_enough (table_refusal t) (write_file t) (length part) ok (omega (arith, part-length, room, low)) in
            absurd (omega (arith, z, x, number_pos why));
      }

-- ---- files one after another
placed_none : (before : List ℕ) (at : ℕ) → placed before at [] ≡ before
placed_none before at = ap (λ (k : ℕ). take at before ++ drop k before) (add-zero at) ∙ take-append-drop at before

-- files at a place, and more behind them
placed_more : (before : List ℕ) (at : ℕ) (f h : List ℕ) → at + length f ≤ length before
    → placed (placed before at f) (at + length f) h ≡ placed before at (f ++ h)
placed_more before at f h l =
    ap₂ (λ (a b : List ℕ). a ++ (h ++ b)) front rest ∙ append_assoc (take at before) f (h ++ drop (at + length (f ++ h)) before)
    ∙ ap (λ (a : List ℕ). take at before ++ a) (sym (append_assoc f h (drop (at + length (f ++ h)) before)))
  where
    head : List ℕ
    head = take at before ++ f

    behind : List ℕ
    behind = drop (at + length f) before

    split : placed before at f ≡ head ++ behind
    split = sym (append_assoc (take at before) f (drop (at + length f) before))

    size : length head ≡ at + length f
    size = length-append (take at before) f ∙ ap (λ (n : ℕ). n + length f) (length-take-le at before (omega arith))

    front : take (at + length f) (placed before at f) ≡ take at before ++ f
    front = ap (take (at + length f)) split ∙ take_at head behind (at + length f) size

    all : at + length f + length h ≡ at + length (f ++ h)
    all = omega (arith, length-append f h)

    rest : drop (at + length f + length h) (placed before at f) ≡ drop (at + length (f ++ h)) before
    rest =
        ap₂ (λ (n : ℕ) (x : List ℕ). drop (n + length h) x) (sym size) split ∙ drop-append-add head behind (length h)
        ∙ drop-drop (length h) (at + length f) before ∙ ap (λ (n : ℕ). drop n before) all

put_none : (t : Table) (before : List ℕ) (at : ℕ) → at ≤ length before → PutAll t [] before at at before
put_none t before at l = record { inside = l; are = λ a h. (sym (add-zero at), sym (placed_none before at)) }

all_split : {A : Type 0} (p : A → Type 0) (xs ys : List A) → All p (xs ++ ys) → All p xs × All p ys
all_split p [] ys a = (tt, a)
all_split p (x ∷ xs) ys a = let (b, c) = all_split p xs ys a.1 in ((a.0, b), c)

-- so many, and one more behind them
put_more : (t : Table) (xs : List (List ℕ)) (x : List ℕ) (before : List ℕ) (at mid : ℕ) (half : List ℕ) (next : ℕ) (now : List ℕ)
    → length half ≡ length before → PutAll t xs before at mid half → Put (pair_table t x) half mid next now → PutAll t (xs ++ (x ∷ [])) before at next now
put_more t xs x before at mid half next now same h p = record {
  inside = omega (arith, p.inside, same);
  are = λ a room.
      let (b, c) = all_split (λ (y : List ℕ). table_refusal (pair_table t y) ≡ 0) xs (x ∷ []) a in
      let both : files t (xs ++ (x ∷ [])) ≡ files t xs ++ write_file (pair_table t x) =
      files_append t xs (x ∷ []) ∙ ap (λ (y : List ℕ). files t xs ++ y) (append-nil (write_file (pair_table t x))) in
      let size : length (files t (xs ++ (x ∷ []))) ≡ length (files t xs) + length (write_file (pair_table t x)) =
      ap length both ∙ length-append (files t xs) (write_file (pair_table t x)) in
      let (m, o) = h.are b (omega (arith, size, room)) in
      let (n, q) = p.file c.0 (omega (arith, size, room, m, same)) in (
        omega (arith, n, m, size),
        q ∙ ap₂ (λ (k : ℕ) (y : List ℕ). placed y k (write_file (pair_table t x))) m o
            ∙ placed_more before at (files t xs) (write_file (pair_table t x)) (omega (arith, size, room)) ∙ ap (placed before at) (sym both),
      );
}

-- so many ladders of words passed, g words each, and the words of the rest still to come
pub record Passed (g cases many : ℕ) (words before : List ℕ) (at : ℕ) (now : List ℕ) (place from left : ℕ) : Type 0 where
  pub done : ℕ
  pub counted : done + left ≡ many
  pub passed : from ≡ words_of g done
  pub rest : from + words_of g left ≤ length words
  pub same : length now ≡ length before
  pub put : PutAll (shape g cases) (ladders g done words) before at place now

module _ {g cases many : ℕ} {words before : List ℕ} {at : ℕ} where
  pub passed_none : 0 + words_of g many ≤ length words → at ≤ length before → Passed g cases many words before at before at 0 many
  unfolding words_of
  passed_none h l = record { done = 0; counted = omega arith; passed = refl; rest = h; same = refl; put = put_none (shape g cases) before at l }

  pub passed_more : {half : List ℕ} {mid from left next : ℕ} {now : List ℕ} → Passed g cases many words before at half mid from left → 0 < left
      → length now ≡ length half → Put (pair_table (shape g cases) (take g (drop from words))) half mid next now
      → Passed g cases many words before at now next (from + g) (left - 1)
  passed_more {half} {mid} {from} {left} {next} {now} p l same put = record {
    done = p.done + 1;
    counted = omega (arith, p.counted);
    passed = rw (words_more g (p.done + 1) (omega arith), more) (omega (arith, p.passed));
    rest = omega (arith, p.rest, words_more g left l);
    same = same ∙ p.same;
    put =
        subst (λ (xs : List (List ℕ)). PutAll (shape g cases) xs before at next now) (sym (ladders_more g p.done words))
        (put_more (shape g cases) (ladders g p.done words) (take g (drop (words_of g p.done) words)) before at mid half next now p.same p.put
        (subst (λ (k : ℕ). Put (pair_table (shape g cases) (take g (drop k words))) half mid next now) p.passed put));
  }
    where
      more : p.done + 1 - 1 ≡ p.done
      more = omega arith

-- ---- a turn
module _ (v : Value) (size : length v.table.rows ≡ 64) (start : Starts gauge_side v) (before : List ℕ) (at : ℕ) (fits : at + longest ≤ length before)
    (many : ℕ) (lent : Lent v.table.gauges v.table.cases v.omit (length before - at) many) (part : List ℕ) (long : length part ≡ many)
    (r : Batch) (words : List ℕ) (h : Batched gauge_side v most_budget part r words) where
  legal : value_refusal gauge_side v ≡ 0 → Legal v.table
  legal ok = legal_of v.table size (passes_both v.table v.table.gauges v.order ok).0

  -- what may be asked of the words after the batch
  pub ladders_there : (rest : List ℕ) → (0 < r.ladders → v.table.gauges ≤ 64) × (words_of v.table.gauges r.ladders ≤ length (words ++ rest))
  unfolding words_of
  ladders_there rest = go (batched_cases gauge_side v most_budget part start r words h)
    where
      none : r.ladders ≡ 0 → (0 < r.ladders → v.table.gauges ≤ 64) × (words_of v.table.gauges r.ladders ≤ length (words ++ rest))
      none e = (λ l. absurd (omega (arith, e)), rw e (omega arith))

      go : ((n : ℕ) × ¬ (n ≡ 0) × Denied n part r words)
          ⊎ ((s : State) × (value_refusal gauge_side v ≡ 0) × PausedAt gauge_side v s × (most_budget ≤ most_budget)
          × Comes v.table v.order v.omit (batch_on gauge_side v (length part) most_budget s) part r words)
          → (0 < r.ladders → v.table.gauges ≤ 64) × (words_of v.table.gauges r.ladders ≤ length (words ++ rest))
      go (inl (n, z, d)) = none (ap (λ (b : Batch). b.ladders) d.says)
      go (inr (s, ok, p, l, c)) =
          let u : Tale = batch_on gauge_side v (length part) most_budget s in
          let e : r.ladders ≡ length u.sets = ap (λ (b : Batch). b.ladders) c.says in
          let w : words_of v.table.gauges (length u.sets) ≡ length (joined u.sets) =
          joined_words v.table.gauges u.sets (gauge_words v (legal ok) (length part) most_budget s l) in (
            λ x. (legal ok).gauges_high,
            rw e
                (omega (
                  arith,
                  w,
                  ap length c.buffer,
                  length-append (joined u.sets) (drop (length (joined u.sets)) part),
                  length-append words rest,
                )),
          )

  -- a batch within the budget is not refused
  pub turned_refused : (n : ℕ) → r.ending ≡ denied n → (w : Value) (next : ℕ) → next ≤ length before → (stop over : Bool) (now : List ℕ)
      → Turned v before at w next stop over now
  turned_refused n e w next low stop over now = record {
    inside = low;
    adds = λ ok s p room. absurd (not_denied (moves_of v.table (gauge_side v.table) (held gauge_side v) v.omit) (hand_out (gauge_side v.table))
        (length part / v.table.gauges) most_budget s n (omega arith) (sym (ap (λ (x : Batch). x.ending) (h.rules ok s p (omega arith)).says) ∙ e));
  }

  -- the turn
  pub turned_batch : (rest : List ℕ) (next : ℕ) (now : List ℕ)
      → PutAll (shape v.table.gauges v.table.cases) (ladders v.table.gauges r.ladders (words ++ rest)) before at next now
      → (w : Value) → w ≡ r.next → (stop over : Bool) → stop ≡ stopped r.ending → over ≡ ended r.ending → Turned v before at w next stop over now
  turned_batch rest next now put w d stop over a b = record { inside = put.inside; adds = adds }
    where
      adds : value_refusal gauge_side v ≡ 0 → (s : State) → PausedAt gauge_side v s → at + longest ≤ length before
          → Added v.table v.order v.omit s before at w next stop over now
      adds ok s p room = record {
        many = m.many;
        sooner = sooner;
        place = place.0;
        bytes = place.1;
        value = d ∙ ap (λ (x : Batch). x.next) c.says ∙ ap (paused v.table v.order v.omit) m.next;
        stops = a ∙ ap (λ (x : Batch). stopped x.ending) c.says ∙ m.stop;
        ends = b ∙ ap (λ (x : Batch). ended x.ending) c.says ∙ m.over;
        some = some;
      }
        where
          l : Legal v.table
          l = legal ok

          u : Tale
          u = batch_on gauge_side v (length part) most_budget s

          c : Comes v.table v.order v.omit (batch_on gauge_side v (length part) most_budget s) part r words
          c = h.rules ok s p (omega arith)

          few : (1 ≤ length part / v.table.gauges) × (length part / v.table.gauges ≤ 1024)
          few = rw long (lent.some l.gauges_low l.gauges_high l.cases_high)

          m : Made v.table v.order v.omit s (length part / v.table.gauges) (batch_on gauge_side v (length part) most_budget s)
          m =
              batch_made v.table v.order v.omit (start ok) (length part / v.table.gauges) few.1
              (λ e. rw long (lent.one l.gauges_low l.gauges_high l.cases_high e)) s p.reached

          -- the files of the calls
          sets : ladders v.table.gauges r.ladders (words ++ rest) ≡ handouts (calls v.table v.order v.omit m.many s)
          sets =
              ap₂ (λ (n : ℕ) (y : List ℕ). ladders v.table.gauges n (y ++ rest)) (ap (λ (x : Batch). x.ladders) c.says) c.buffer
              ∙ ap (ladders v.table.gauges (length u.sets)) (append_assoc (joined u.sets) (drop (length (joined u.sets)) part) rest)
              ∙ ladders-joined v.table.gauges u.sets (drop (length (joined u.sets)) part ++ rest)
              (gauge_words v l (length part) most_budget s (omega arith)) ∙ m.sets

          within : (n : ℕ) → All (Within (table_rows v.table)) (handouts (calls v.table v.order v.omit n s))
          within n = handed_all v.table v.order v.omit n s

          mb : ℕ
          mb = most_bytes v.table.gauges v.table.cases

          room_for : (length part / v.table.gauges - 1) * mb + longest ≤ length before - at
          room_for = rw long (lent.called l.gauges_low l.gauges_high l.cases_high)

          sooner : (i : ℕ) → i < m.many → ¬ Stops v.table v.order v.omit s (length before - at) i
          sooner i low (inl e) = let z : ◌≡◌ {A = Bool} false true = sym (m.going i low) ∙ e in clash cc
          sooner i low (inr z) =
              let xs : List (List ℕ) = handouts (calls v.table v.order v.omit i s) in
              let n : length xs ≤ length part / v.table.gauges - 1 = omega (arith, handed_most v.table v.order v.omit i s, low, m.most) in
              omega (arith, z, files_most v.table l xs (within i), mul-le-mul_right mb n, room_for)

          room_most : length (text v.table v.order v.omit m.many s) ≤ length before - at
          room_most =
              let xs : List (List ℕ) = handouts (calls v.table v.order v.omit m.many s) in
              let n : length xs - 1 ≤ length part / v.table.gauges - 1 = omega (arith, handed_most v.table v.order v.omit m.many s, m.most) in
              omega (arith, files_first v.table l xs (within m.many), mul-le-mul_right mb n, room_for)

          place : (next ≡ at + length (text v.table v.order v.omit m.many s))
              × (now ≡ placed before at (text v.table v.order v.omit m.many s))
          place =
              let xs : List (List ℕ) = handouts (calls v.table v.order v.omit m.many s) in
              let q : PutAll (shape v.table.gauges v.table.cases) xs before at next now =
              subst (λ (y : List (List ℕ)). PutAll (shape v.table.gauges v.table.cases) y before at next now) sets put in
              let z = files-shape v.table xs in
              subst (λ (y : List ℕ). (next ≡ at + length y) × (now ≡ placed before at y)) z
              (q.are (all_legal v.table l xs (within m.many)) (omega (arith, ap length z, room_most, room)))

          some : stop ≡ false → at < next
          some e =
              let xs : List (List ℕ) = handouts (calls v.table v.order v.omit m.many s) in
              let f : stopped u.ending ≡ false = sym (ap (λ (x : Batch). stopped x.ending) c.says) ∙ sym a ∙ e in
              let n : 0 < length xs = omega (arith, few.0, m.whole f, ap length m.sets) in
              omega (arith, place.0, files_some v.table xs n)
