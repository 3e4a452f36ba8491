-- The rehearsal as its code goes: a law for each turn of its loops, and demand 3 of the strike that it is.
use Rattle.std.specs.Prelude.{Err, None, Ok, Option, Result, Some}
use Rattle.std.specs.Option.{unwrap_or}
use Prim.Native.Nat.{ℕ, ◌+◌, ◌-◌, ◌*◌, ◌^◌, ◌≤◌, ◌<◌, min}
use mathlib.Core.Path.{◌≡◌, refl, sym, ap, ◌∙◌}
use mathlib.Core.Logic.{◌≢◌}
use mathlib.Core.Bool.{true, false}
use mathlib.Core.List.{List, [], ◌∷◌, ◌++◌}
use native.Mathlib.Omega.{arith}
use native.Mathlib.Numerals.{add-one}
use lib.ListN.{length, get_or, drop}
use lib.Seq.{drop-cons, drop-length}
use borrow.Author.Tests.{ne_eqb, lt-ltb, le-ltb}
use Rattle.counting.proofs.Laws.Tests.{no_both}
use Rattle.table.specs.declared.geometry.Geometry.{Geometry}
use Rattle.table.specs.declared.answers.Answer.{Answer}
use Rattle.table.specs.declared.answers.Answer.TheVariants.{Done}
use Rattle.table.specs.declared.answers.Refusal.{Refusal}
use Rattle.table.specs.Geometry.{Placed}
use Rattle.table.specs.Stores.{Wrote, written}
use Rattle.table.specs.Answers.{Plan, refuse, nothing_left, carry, answer_of, table_of}
use Rattle.entries.specs.Check.{sizes_of}
use Rattle.restore.specs.declared.call.Call.{Call}
use Rattle.restore.specs.declared.call.Call.TheVariants.{Check, Recover}
use Rattle.restore.specs.Operations.{call_by}
use Rattle.recovery.specs.Recover.{recover_of, scratch_after, RecoverMeets}
use Rattle.recovery.proofs.Laws.RecoverPlan.{recover_carries, carries_recover}
use Rattle.restore.specs.Call.{plan_of, accepted, scratch_by, CarriedOut}
use Rattle.restore.specs.Run.{Step, store_count, whole_table, plan_at, table_by, run}
use Rattle.restore.proofs.Laws.RunPoints.{run_one}
use Rattle.restore.specs.Strike.{Strike, broken_off}
use Rattle.restore.specs.Strike as strikes
use Rattle.restore.proofs.Laws.WholeAt.{whole_at, whole_count}
use Rattle.restore.specs.Demand3.{Restored}
use Rattle.restore.proofs.Laws.Demand3Theorem.{demand3}
use Rattle.restore.specs.Rehearsal.{call_or_check, call_at, call_count, steps_to, node_word_at, node_words, put_to, hit_node, hit_sized, hit_by, attempts_at, broken_at, scratch_run, scratch_broken, scratch_broken_at, Script, whole_calls, next, before, struck, attempted, last_recovery, recovered, Demanded, strike, too_few_left, Restores, Rehearsed}
use Rattle.restore.specs.code.Rehearsing.{RanCalls, Struck, BrokenOff}
use Rattle.restore.proofs.Laws.RehearsalHit.{hit_struck}

-- ---- a call of its words

or_check : (named : Option Call) → unwrap_or named Check ≡ call_or_check named
or_check None = refl
or_check (Some call) = refl

pub call_here :
    (words : List ℕ) (i : ℕ) {operation x y z flag : ℕ} {named : Option Call} {call : Call} → i < call_count words → operation ≡ get_or words (5 * i) 0
    → x ≡ get_or words (5 * i + 1) 0 → y ≡ get_or words (5 * i + 2) 0 → z ≡ get_or words (5 * i + 3) 0 → flag ≡ get_or words (5 * i + 4) 0
    → named ≡ call_by operation x y z flag → call ≡ unwrap_or named Check → call ≡ call_at words i
unfolding call_at
call_here words i {named = named} h a b c d e f k = k ∙ or_check named ∙ rw (f, lt-ltb i (call_count words) h, a, b, c, d, e) refl

pub call_past : (words : List ℕ) (i : ℕ) → call_count words ≤ i → Check ≡ call_at words i
unfolding call_at
call_past words i h = rw (le-ltb i (call_count words) h) refl

-- ---- the whole calls

-- the limit that the code gives them, which no list reaches
abbrev pub unlimited : ℕ
unlimited = 18446744073709551615

pub ran_none : (words : List ℕ) (scratch : ℕ) (t : List ℕ) → t ≡ run t (steps_to words scratch 0)
unfolding run steps_to
ran_none words scratch t = refl

pub scratch_none : (words : List ℕ) (scratch : ℕ) (t s : List ℕ) → s ≡ scratch_run t (steps_to words scratch 0) s
unfolding scratch_run steps_to
scratch_none words scratch t s = refl

scratch_one :
    (t : List ℕ) (calls : List Step) (x : Step) (s : List ℕ)
    → scratch_run t (calls ++ (x ∷ [])) s ≡ scratch_by x.call (plan_at (run t calls) x) (scratch_run t calls s)
unfolding run scratch_run
scratch_one t [] x s = refl
scratch_one t (y ∷ ys) x s = scratch_one (table_by t y) ys x (scratch_by y.call (plan_at t y) s)

module _
    (words t : List ℕ) (i : ℕ) {scratch : ℕ} {call : Call} {t₁ t₂ s s₂ : List ℕ} {r : Answer} (n : length s ≡ scratch)
    (e : t₁ ≡ run t (steps_to words scratch i)) (c : call ≡ call_at words i) (o : CarriedOut call unlimited t₁ t₂ s s₂ r) where
  pub ran_next : t₂ ≡ run t (steps_to words scratch (i + 1))
  unfolding steps_to
  ran_next =
      rw add-one (o.meets.table ∙ whole_at t₁ (length s) call unlimited (omega arith) ∙ same ∙ sym (run_one t (steps_to words scratch i) (record { call = call_at words i; scratch = scratch })))
    where
      same : table_by t₁ (record { call = call; scratch = length s }) ≡ table_by (run t (steps_to words scratch i)) (record { call = call_at words i; scratch = scratch })
      same = rw (n, e, c) refl

  pub scratch_next : (s₀ : List ℕ) → s ≡ scratch_run t (steps_to words scratch i) s₀ → s₂ ≡ scratch_run t (steps_to words scratch (i + 1)) s₀
  unfolding steps_to
  scratch_next s₀ k = rw add-one (o.scratch ∙ same ∙ sym (scratch_one t (steps_to words scratch i) (record { call = call_at words i; scratch = scratch }) s₀))
    where
      same : scratch_by call (plan_of t₁ (length s) call) s ≡ scratch_by (call_at words i) (plan_of (run t (steps_to words scratch i)) scratch (call_at words i)) (scratch_run t (steps_to words scratch i) s₀)
      same = rw (n, e, c) (ap (scratch_by (call_at words i) (plan_of (run t (steps_to words scratch i)) scratch (call_at words i))) k)

pub ran_end :
    (words t s : List ℕ) {i : ℕ} {t₁ s₁ : List ℕ} → i ≤ call_count words → call_count words ≤ i → t₁ ≡ run t (steps_to words (length s) i)
    → s₁ ≡ scratch_run t (steps_to words (length s) i) s → RanCalls words t t₁ s s₁
ran_end words t s {i} a b e f = let d : i ≡ call_count words = omega arith in record { table = rw d at e; scratch = rw d at f }

-- ---- the hit

-- where the node's words lie
pub node_mark : (g : Geometry) (n i : ℕ) → i ≡ 0 → 1 + n ≡ node_word_at g n i
unfolding node_word_at
node_mark g n i e = rw e refl

pub node_entry : (g : Geometry) (n i : ℕ) {at : ℕ} → i ≢ 0 → Placed g n 0 at → at + (i - 1) ≡ node_word_at g n i
unfolding node_word_at
node_entry g n i d p = simp (ne_eqb i 0 d) (omega (arith, p.at))

pub put_none : (g : Geometry) (n : ℕ) (words t : List ℕ) → t ≡ put_to g n words 0 t
unfolding put_to
put_none g n words t = refl

pub put_next :
    (g : Geometry) (n : ℕ) (words t : List ℕ) (i : ℕ) {at word left : ℕ} {t₁ t₂ : List ℕ} → t₁ ≡ put_to g n words i t → at ≡ node_word_at g n i
    → word ≡ get_or words i 0 → Wrote 1 at word t₁ t₂ left → t₂ ≡ put_to g n words (i + 1) t
unfolding put_to written
put_next g n words t i e a w o = rw (add-one, ← e, ← a, ← w) o.table

pub put_end :
    (g : Geometry) (n : ℕ) (words t : List ℕ) {i k : ℕ} {t₁ : List ℕ} → i ≤ k → k ≤ i → k ≡ min (length words) (node_words g) → t₁ ≡ put_to g n words i t
    → t₁ ≡ put_to g n words (min (length words) (node_words g)) t
put_end g n words t {i} a b c e = let d : i ≡ min (length words) (node_words g) = omega arith in rw d at e

-- the ways of the code
pub hit_there : (g : Geometry) (n : ℕ) (words t : List ℕ) {t₁ : List ℕ} → n < g.nodes → t₁ ≡ put_to g n words (min (length words) (node_words g)) t → t₁ ≡ hit_node g n words t
unfolding hit_node
hit_there g n words t h e = e ∙ rw (lt-ltb n g.nodes h) refl

pub hit_not_there : (g : Geometry) (n : ℕ) (words t : List ℕ) → g.nodes ≤ n → t ≡ hit_node g n words t
unfolding hit_node
hit_not_there g n words t h = rw (le-ltb n g.nodes h) refl

pub hit_nobody : (lost : Option ℕ) (words t : List ℕ) → lost ≡ None → t ≡ hit_by lost words t
unfolding hit_by
hit_nobody lost words t e = rw e refl

pub hit_failed : (lost : Option ℕ) (words t : List ℕ) {n : ℕ} {c : Result Geometry Refusal} {x : Refusal} → lost ≡ Some n → c ≡ sizes_of t → c ≡ Err x → t ≡ hit_by lost words t
unfolding hit_by hit_sized
hit_failed lost words t e p q = rw (e, ← p, q) refl

pub hit_passed :
    (lost : Option ℕ) (words t : List ℕ) {n : ℕ} {c : Result Geometry Refusal} {g : Geometry} {t₁ : List ℕ} → lost ≡ Some n → c ≡ sizes_of t → c ≡ Ok g
    → t₁ ≡ hit_node g n words t → t₁ ≡ hit_by lost words t
unfolding hit_by hit_sized
hit_passed lost words t e p q h = rw (e, ← p, q) h

pub struck_is :
    (lost : Option ℕ) (words : List ℕ) {call : Call} {limit : ℕ} {t t₁ t₂ s s₁ : List ℕ} {r : Answer} → CarriedOut call limit t t₁ s s₁ r
    → t₂ ≡ hit_by lost words t₁ → Struck call limit lost words t t₂ s s₁
struck_is lost words o e = record { table = e ∙ ap (hit_by lost words) o.meets.table; scratch = o.scratch }

-- ---- the recoveries that are broken off

pub broken_none : (lost : Option ℕ) (scratch : ℕ) (limits t : List ℕ) → broken_at lost scratch (drop 0 limits) t ≡ broken_at lost scratch limits t
broken_none lost scratch limits t = refl

pub scratch_whole : (lost : Option ℕ) (scratch : ℕ) (limits t s : List ℕ) → scratch_broken_at lost scratch (drop 0 limits) t s ≡ scratch_broken_at lost scratch limits t s
scratch_whole lost scratch limits t s = refl

module _
    (lost : Option ℕ) (limits t : List ℕ) (i : ℕ) {scratch limit : ℕ} {t₁ t₂ s s₂ : List ℕ} {r : Answer} (h : i < length limits) (n : length s ≡ scratch)
    (l : limit ≡ get_or limits i 0) (o : RecoverMeets (recover_of t₁ lost (length s)) limit t₁ t₂ s s₂ r) where
  pub broken_next :
      broken_at lost scratch (drop i limits) t₁ ≡ broken_at lost scratch limits t → broken_at lost scratch (drop (i + 1) limits) t₂ ≡ broken_at lost scratch limits t
  unfolding broken_off attempts_at
  broken_next e = rw (add-one, o.meets.table, l, n) (rw (drop-cons limits i 0 h) at e)

  pub scratch_broken_lem :
      (s₀ : List ℕ) → scratch_broken_at lost scratch (drop i limits) t₁ s ≡ scratch_broken_at lost scratch limits t s₀
      → scratch_broken_at lost scratch (drop (i + 1) limits) t₂ s₂ ≡ scratch_broken_at lost scratch limits t s₀
  unfolding scratch_broken attempts_at
  scratch_broken_lem s₀ e = rw (add-one, o.meets.table, o.scratch, l, n) (rw (drop-cons limits i 0 h) at e)

pub broken_end :
    (lost : Option ℕ) (limits t s : List ℕ) {i : ℕ} {t₁ s₁ : List ℕ} → i ≤ length limits → length limits ≤ i
    → broken_at lost (length s) (drop i limits) t₁ ≡ broken_at lost (length s) limits t
    → scratch_broken_at lost (length s) (drop i limits) t₁ s₁ ≡ scratch_broken_at lost (length s) limits t s → BrokenOff lost limits t t₁ s s₁
unfolding broken_off scratch_broken attempts_at
broken_end lost limits t s {i} h k e f =
    let n : i ≡ length limits = omega arith in record { table = rw (n, drop-length limits) at e; scratch = rw (n, drop-length limits) at f }

-- whatever is known of the scratch
attempts_same :
    (lost : Option ℕ) (scratch : ℕ) {m n : ℕ} (h : m ≤ scratch) (k : n ≤ scratch) (limits t : List ℕ)
    → broken_off lost (attempts_at scratch h limits) t ≡ broken_off lost (attempts_at scratch k limits) t
unfolding broken_off attempts_at
attempts_same lost scratch h k [] t = refl
attempts_same lost scratch h k (l ∷ ls) t = attempts_same lost scratch h k ls (table_of (recover_of t lost scratch) l t)

-- ---- the answer of a whole recovery

module _ (t : List ℕ) (lost : Option ℕ) (scratch : ℕ) where
  done_by : (q : Plan) → recover_of t lost scratch ≡ q → accepted q ≡ true → answer_of q (store_count q) ≡ Done 0 (store_count q)
  done_by (refuse x) e h = absurd (no_both h refl)
  done_by nothing_left e h = absurd (no_both h refl)
  done_by (carry g x ss) e h =
      let c = carries_recover t lost scratch (recover_carries t lost scratch e) in
      let z : x ≡ 0 = cc in
      let k : min (length ss) (length ss) ≡ length ss = omega arith in
      rw (z, k) refl

  whole_table_lem : (limit : ℕ) → 2 ^ 16 ≤ limit + 1 → table_of (recover_of t lost scratch) limit t ≡ whole_table (recover_of t lost scratch) t
  unfolding plan_of
  whole_table_lem limit large = whole_at t scratch (Recover lost) limit large

  whole_answer : (limit : ℕ) → 2 ^ 16 ≤ limit + 1 → answer_of (recover_of t lost scratch) limit ≡ answer_of (recover_of t lost scratch) (store_count (recover_of t lost scratch))
  unfolding plan_of
  whole_answer limit large = go (recover_of t lost scratch) refl
    where
      go : (q : Plan) → recover_of t lost scratch ≡ q → answer_of q limit ≡ answer_of q (store_count q)
      go (refuse x) e = refl
      go nothing_left e = refl
      go (carry g x ss) e = ap (Done x) (whole_count t scratch (Recover lost) limit large e ∙ omega arith)

-- ---- the demand

module _ (t₀ : List ℕ) (p : Script) (d : Demanded t₀ p) (room : too_few_left t₀ p ≡ false) where
  abbrev made : Strike (run t₀ (whole_calls t₀ p))
  made = strike t₀ p d (hit_struck t₀ p d)

  there : Restored t₀ d.formatted (whole_calls t₀ p) made
  there = demand3 t₀ d.formatted (whole_calls t₀ p) made room

  same : attempted t₀ p ≡ strikes.attempted made
  same = attempts_same p.lost p.scratch _ d.enough p.limits (struck t₀ p)

  accepts : accepted (last_recovery t₀ p) ≡ true
  accepts = rw same there.carried_out

  pub restores : Restores t₀ p d (recovered t₀ p) (answer_of (last_recovery t₀ p) (store_count (last_recovery t₀ p)))
  restores = record {
    hit = hit_struck t₀ p d;
    table = rw same refl;
    answer = done_by (attempted t₀ p) p.lost p.scratch (last_recovery t₀ p) refl accepts ∙ rw same refl;
    restored = there;
  }

-- ---- THE CONTRACT

pub rehearsed :
    (p : Script) (s₁ s₂ : List ℕ) {t₀ t₁ t₂ t₃ t₄ s₀ s₃ s₄ : List ℕ} {r : Answer} → length s₀ ≡ p.scratch → length s₁ ≡ p.scratch → length s₂ ≡ p.scratch
    → length s₃ ≡ p.scratch → RanCalls p.calls t₀ t₁ s₀ s₁ → Struck p.call p.limit p.lost p.words t₁ t₂ s₁ s₂
    → BrokenOff p.lost p.limits t₂ t₃ s₂ s₃ → RecoverMeets (recover_of t₃ p.lost (length s₃)) unlimited t₃ t₄ s₃ s₄ r
    → Rehearsed p t₀ t₄ s₀ s₄ r
rehearsed p s₁ s₂ {t₀} {t₁} {t₂} {t₃} {t₄} {s₀} {s₃} {s₄} {r} n₀ n₁ n₂ n₃ a b c o = record {
  table = table;
  scratch = o.scratch ∙ rw (n₃, tried) (ap (scratch_after (last_recovery t₀ p)) third);
  answer = answer;
  demand = λ d room. rw (table, answer) (restores t₀ p d room);
}
  where
    ran : t₁ ≡ before t₀ p
    ran = rw n₀ at a.table

    hit : t₂ ≡ struck t₀ p
    hit = rw (n₁, ran) at b.table

    tried : t₃ ≡ attempted t₀ p
    tried = rw (n₂, hit) at c.table

    first : s₁ ≡ scratch_run t₀ (whole_calls t₀ p) s₀
    first = rw n₀ at a.scratch

    second : s₂ ≡ scratch_by p.call (plan_at (before t₀ p) (next t₀ p)) (scratch_run t₀ (whole_calls t₀ p) s₀)
    second = rw (n₁, ran) at b.scratch ∙ ap (scratch_by p.call (plan_at (before t₀ p) (next t₀ p))) first

    third : s₃ ≡ scratch_broken_at p.lost p.scratch p.limits (struck t₀ p) (scratch_by p.call (plan_at (before t₀ p) (next t₀ p)) (scratch_run t₀ (whole_calls t₀ p) s₀))
    third = rw (n₂, hit) at c.scratch ∙ ap (scratch_broken_at p.lost p.scratch p.limits (struck t₀ p)) second

    table : t₄ ≡ recovered t₀ p
    table = o.meets.table ∙ rw (n₃, tried) (whole_table_lem (attempted t₀ p) p.lost p.scratch unlimited (omega arith))

    answer : r ≡ answer_of (last_recovery t₀ p) (store_count (last_recovery t₀ p))
    answer = o.meets.answer ∙ rw (n₃, tried) (whole_answer (attempted t₀ p) p.lost p.scratch unlimited (omega arith))
