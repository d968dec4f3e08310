-- The blocks from a fresh start on, one after another, are the files of the members of the run's list in turn, whatever its preference: a front of
-- it, and all of it once one is over (`blocks_listed`); each block carries this on (`carries_list`).
--
-- In order: an end among calls; one block (`block_fills`); blocks from a state on are so many calls (`PutOut`, `put_out`); the promises.
use mathlib.Core.Path.{◌≡◌, refl, sym, ap, ap₂, ◌∙◌, subst}
use mathlib.Core.Logic.{inl, inr}
use mathlib.Core.Bool.{Bool, true, false, ◌||◌}
use mathlib.Core.List.Memᴰ
use mathlib.Core.List.{List, [], ◌∷◌, ◌++◌}
use Prim.Native.Nat.{ℕ, ◌+◌, ◌≤◌, ◌<◌, min}
use native.Mathlib.Decide.{dec_lt}
use native.Mathlib.Omega.{arith}
use lib.ListN.{length, take, replicate, length-append}
use lib.Seq.{take_at}
use Rattle.basics.proofs.Clash.{clash}
use Rattle.table.specs.declared.Table.{Table}
use Rattle.rules.specs.Sequences.{factorial}
use Rattle.rules.specs.Machine.{State, fresh}
use Rattle.rules.specs.Calls.{Reply, refused, spent, handed, end, Call, most_budget, handouts}
use Rattle.rules.proofs.Ends.{Ended}
use Rattle.lists.specs.Lists.{gauge_side}
use Rattle.lists.specs.OnTable.{ReachedOn}
use Rattle.lists.specs.private.Demand.{Demand}
use Rattle.lists.proofs.Listed.{list_unique}
use Rattle.lists.proofs.Demand.{demand3}
use Rattle.runs.specs.Paused.{Value, paused}
use Rattle.runs.specs.Calling.{arrangement, PausedAt}
use Rattle.runs.proofs.Demands.{Started, Starts}
use Rattle.blocks.specs.Filling.{files, longest, Filling, calls, after, text, is_end, has, Stops, Fills, Filled, Item, Blocks, leaves, output, is_over}
use Rattle.blocks.specs.Filling.{Listed, CarriesList}
use Rattle.blocks.proofs.Calls.{files_append, handouts_append, has_append, calls_more, reached_after, stop_ends}

-- ---- a call that answered end
end_of : (a : Reply) → is_end a ≡ true → a ≡ end
end_of (refused n) e = clash cc
end_of spent e = clash cc
end_of (handed x) e = clash cc
end_of end e = refl

end_in : (cs : List Call) → has is_end cs ≡ true → Ended cs
end_in [] e = clash cc
end_in (c ∷ cs) e = go (is_end c.answer) refl e (end_in cs)
  where
    go : (b : Bool) → is_end c.answer ≡ b → (b || has is_end cs) ≡ true → (has is_end cs ≡ true → Ended cs) → Ended (c ∷ cs)
    go true a h more = (c, Memᴰ.head refl, end_of c.answer a)
    go false a h more = let x = more h in (x.0, Memᴰ.tail x.1, x.2)

-- ---- one block
files_some : (t : Table) (xs : List (List ℕ)) → 0 < length (files t xs) → 1 ≤ length xs
files_some t [] h = absurd (omega arith)
files_some t (x ∷ xs) h = omega arith

module _ (t : Table) (order : List ℕ) (l : Started gauge_side t order) (s : State) (h : ReachedOn (gauge_side t) (arrangement (gauge_side t) order) s)
    (i : Item) where
  -- a block that is not refused is filled
  block_fills : Filled (paused t order false s) i.before i.answer i.now → i.answer.refusal ≡ 0
      → Fills t order false s i.before i.answer i.now × (longest ≤ length i.before)
  block_fills f e = go (dec_lt (length i.before) longest)
    where
      p : PausedAt gauge_side (paused t order false s) s
      p = record { reached = h; stands = refl }

      go : Dec (length i.before < longest) → Fills t order false s i.before i.answer i.now × (longest ≤ length i.before)
      go (yes k) = absurd (omega (arith, e, ap (λ (x : Filling). x.refusal) (f.short l.passed s p k).says))
      go (no k) = (f.fills l.passed s p (omega arith), omega arith)

  module _ (f : Fills t order false s i.before i.answer i.now) where
    block-front : take i.answer.used i.now ≡ text t order false f.count s
    block-front = ap (take i.answer.used) f.bytes ∙ take_at (text t order false f.count s) _ i.answer.used (sym f.used)

    -- it has a file unless it is over, having no room for the longest
    block-some : longest ≤ length i.before → i.answer.over ≡ false → 1 ≤ length (handouts (calls t order false f.count s))
    block-some k o = files_some t (handouts (calls t order false f.count s)) (go f.stops)
      where
        go : Stops t order false s (length i.before) f.count → 0 < length (text t order false f.count s)
        go (inl e) =
            let z : ◌≡◌ {A = Bool} false true = sym o ∙ f.over ∙ stop_ends t order l f.count s h e in
            clash cc
        go (inr e) = omega arith

-- ---- what blocks from the state s on put out
record PutOut (t : Table) (order : List ℕ) (s : State) (is : List Item) : Type 0 where
  pub count : ℕ
  pub bytes : output is ≡ text t order false count s
  pub over : is_over is ≡ has is_end (calls t order false count s)
  pub many : is_over is ≡ false → length is ≤ length (handouts (calls t order false count s))

neither : (a b : Bool) → (a || b) ≡ false → (a ≡ false) × (b ≡ false)
neither true b e = clash cc
neither false b e = (refl, e)

put_out : (t : Table) (order : List ℕ) → Started gauge_side t order → (s : State) → ReachedOn (gauge_side t) (arrangement (gauge_side t) order) s
    → (is : List Item) → Blocks (paused t order false s) is → PutOut t order s is
put_out t order l s h [] b = record { count = 0; bytes = refl; over = refl; many = λ e. omega arith }
put_out t order l s h (i ∷ is) b =
    let (f, room) = block_fills t order l s h i b.0 b.1 in
    let n : ℕ = f.count in
    let z : State = after t order false n s in
    let more = put_out t order l z (reached_after t order false n s h) is (subst (λ (v : Value). Blocks v is) f.value b.2) in
    let m : ℕ = more.count in
    let both : calls t order false (n + m) s ≡ calls t order false n s ++ calls t order false m z = calls_more t order false n m s in
    let sets : handouts (calls t order false (n + m) s) ≡ handouts (calls t order false n s) ++ handouts (calls t order false m z) =
    ap handouts both ∙ handouts_append (calls t order false n s) (calls t order false m z) in
    record {
      count = n + m;
      bytes =
          ap₂ (λ (x y : List ℕ). x ++ y) (block-front t order l s h i f) more.bytes
          ∙ sym (ap (files t) sets ∙ files_append t (handouts (calls t order false n s)) (handouts (calls t order false m z)));
      over =
          ap₂ (λ (x y : Bool). x || y) f.over more.over
          ∙ sym (ap (has is_end) both ∙ has_append is_end (calls t order false n s) (calls t order false m z));
      many = λ e.
          let (a, o) = neither i.answer.over (is_over is) e in
          let sum = length-append (handouts (calls t order false n s)) (handouts (calls t order false m z)) in
          omega (arith, more.many o, block-some t order l s h i f room a, ap length sets, sum);
    }

-- ---- the promises
pub blocks_listed : (t : Table) (order : List ℕ) → Started gauge_side t order → (is : List Item) → Blocks (paused t order false fresh) is → Listed t order is
blocks_listed t order l is b = record {
  front = λ xs g. (
    d.hands.front.0,
    ap (λ (y : List ℕ). y ++ files t d.hands.front.0) o.bytes ∙ sym (files_append t (handouts made) d.hands.front.0)
        ∙ ap (files t) (d.hands.front.1 ∙ list_unique d.hands.list xs d.hands.listed g),
  );
  complete = λ xs g e.
      let c = end_in made (sym o.over ∙ e) in
      o.bytes ∙ ap (files t) (d.hands.complete c.0 c.1 c.2 ∙ list_unique d.hands.list xs d.hands.listed g);
  ends = λ h. ended h (is_over is) refl;
}
  where
    o : PutOut t order fresh is
    o = put_out t order l fresh (record { count = 0; leads = refl }) is b

    made : List Call
    made = calls t order false o.count fresh

    d : Demand t (gauge_side t) (arrangement (gauge_side t) order) (replicate o.count most_budget) made
    d = demand3 t l.legal (gauge_side t) l.fair (arrangement (gauge_side t) order) l.arranged (replicate o.count most_budget)

    ended : factorial (min t.gauges t.cases) < length is → (b : Bool) → is_over is ≡ b → b ≡ true
    ended h true e = refl
    ended h false e = absurd (omega (arith, h, o.many e, d.few, ap length d.hands.front.1, length-append (handouts made) d.hands.front.0))

-- one block more
blocks_more : (v : Value) (is : List Item) (i : Item) → Blocks v is → Filled (leaves v is) i.before i.answer i.now → i.answer.refusal ≡ 0
    → Blocks v (is ++ (i ∷ []))
blocks_more v [] i b f e = (f, e, tt)
blocks_more v (j ∷ is) i b f e = (b.0, b.1, blocks_more j.answer.value is i b.2 f e)

pub carries_list : (v : Value) → Starts gauge_side v → (i : Item) → Filled v i.before i.answer i.now → CarriesList v i
carries_list v h i f ok e is b d =
    blocks_listed v.table v.order (h ok) (is ++ (i ∷ []))
    (blocks_more (paused v.table v.order false fresh) is i b (subst (λ (w : Value). Filled w i.before i.answer i.now) (sym d) f) e)
