-- The laws of `specs/code/Notes.antt`.
use Rattle.std.specs.Prelude.{Option}
use Prim.Native.Nat.{ℕ, ◌+◌, ◌*◌, ◌≤◌, ◌<◌}
use mathlib.Core.Path.{◌≡◌, refl, sym, ap, ap₂, ◌∙◌}
use mathlib.Core.Bool.{Bool, true, false, cond, not, ◌&&◌, ◌||◌, and-true}
use mathlib.Core.List.{List}
use native.Mathlib.Omega.{arith}
use lib.Dec.{eqb, leb}
use lib.ListN.{length, get_or, set}
use borrow.Author.Tests.{eq-eqb, ne_eqb, eqb-true, leb-true}
use Rattle.counting.proofs.Laws.Tests.{by_cases, other_holds}
use Rattle.counting.specs.Counting.{every}
use Rattle.counting.proofs.Laws.Counting.{every_at, every_none, every_next, every_ext, every_and, every_all}
use Rattle.counting.specs.Values.{Values, met_of}
use Rattle.counting.proofs.Laws.Values.{met_seen as Met-some}
use Rattle.table.specs.declared.geometry.Geometry.{Geometry}
use Rattle.table.specs.declared.changes.Event.TheVariants.{RollForward}
use Rattle.table.specs.Changes.{change_of, checkpoint_of}
use Rattle.table.proofs.Laws.Changes.{checkpoint_low}
use Rattle.table.specs.View.{Entry, View, current, kept}
use Rattle.table.specs.Copies.{back_by, copy_number}
use Rattle.survivors.specs.Survivors.{survivors}
use Rattle.survivors.proofs.Laws.SurvivorsCode.{survivor_entry}
use Rattle.recovery.specs.Sides.{copy_on, copies_on, item_fits}
use Rattle.recovery.specs.code.Notes.{copies_to, first_met, agrees_met, has_at, value_at, weight_at, NotedTo, Noted, equal_to}
use Rattle.recovery.proofs.Laws.SidesCode.{copies_start, copies_next}
use Rattle.recovery.specs.code.Rows.{state_in, Listed, reached}
use Rattle.recovery.proofs.Laws.Rows.{reached_start, reached_next, listed_turn, listed_end, rowed_none, rowed_blank, rowed_set}
use Rattle.recovery.specs.code.Tallies.{number_weight, step_of}

-- ---- a node's recovery copies on a side

-- a state word 0 has none
pub number_blank : (forward : Bool) (e : Entry) → e.state ≡ 0 → copy_number (copy_on forward e) ≡ 0
unfolding back_by change_of
number_blank true e h = rw h refl
number_blank false e h = rw h refl

-- a number has two bits, and a weight unless it is 0
by_small : (number k x y : ℕ) → number < 4 → k < 4 → copy_number (back_by number k x y) < 4
unfolding back_by
by_small number k x y h l =
    by_cases (eqb number 0) (λ p. by_cases (eqb k 0) (λ q. rw (p, q) (omega arith)) (λ q. rw (p, q) l)) (λ p. rw p h)

pub number_small : (forward : Bool) (e : Entry) → copy_number (copy_on forward e) < 4
number_small true e = by_small (checkpoint_of (change_of (current e) RollForward)) 0 e.value e.kept_value (omega (arith, checkpoint_low (change_of (current e) RollForward))) (omega arith)
number_small false e = by_small (checkpoint_of (current e)) (kept e) e.value e.kept_value (omega (arith, checkpoint_low (current e))) (omega arith)

weight_some : (k : ℕ) → k < 4 → eqb k 0 ≡ false → 1 ≤ number_weight k
unfolding every
weight_some k h e = leb-true 1 (number_weight k) (other_holds (eqb k 0) (every_at 4 (λ k. eqb k 0 || leb 1 (number_weight k)) refl k h) e)

-- what a row's pass needs
pub record Notable (g : Geometry) (v : View) (n : ℕ) (l : List ℕ) (count : ℕ) (firsts tallies : List ℕ) : Type 0 where
  pub listed : Listed (state_in v n) g.items l count
  pub firsts_room : g.items ≤ length firsts
  pub tallies_room : g.items ≤ length tallies

pub noted_start : (forward : Bool) (v : View) (n : ℕ) (l firsts tallies : List ℕ) → NotedTo forward v n firsts tallies (reached l 0) firsts tallies true
noted_start forward v n l firsts tallies =
    rw (reached_start l) (record { firsts_row = rowed_none _ firsts; tallies_row = rowed_none _ tallies; agrees = every_none _ })

module _ (forward : Bool) (v : View) (n : ℕ) {firsts tallies firsts' tallies' : List ℕ} {agree : Bool} where
  noted_blank : (j : ℕ) → state_in v n j ≡ 0 → NotedTo forward v n firsts tallies j firsts' tallies' agree → NotedTo forward v n firsts tallies (j + 1) firsts' tallies' agree
  noted_blank j e r =
      let z = number_blank forward (v.entry n j) e in
      record {
        firsts_row = rowed_blank _ j r.firsts_row (rw z refl);
        tallies_row = rowed_blank _ j r.tallies_row (omega (arith, ap (λ k. number_weight k * step_of n) z));
        agrees = sym (and-true agree) ∙ every_next _ j r.agrees (rw z refl);
      }

  module _ (g : Geometry) {l : List ℕ} {count : ℕ} (o : Notable g v n l count firsts tallies) (k : ℕ)
      (r : NotedTo forward v n firsts tallies (reached l k) firsts' tallies' agree) where
    -- before the turn
    pub noted_here : k < count → NotedTo forward v n firsts tallies (get_or l k 0) firsts' tallies' agree
    noted_here q = listed_turn (λ i. NotedTo forward v n firsts tallies i firsts' tallies' agree) (state_in v n) noted_blank o.listed k q r

    pub noted_same : k < count → get_or tallies' (get_or l k 0) 0 ≡ get_or tallies (get_or l k 0) 0
    noted_same q = (noted_here q).tallies_row.kept (get_or l k 0) (omega arith)

    pub noted_turn :
        (q : k < count) {x y : ℕ} {a : Bool}
        → x ≡ first_met (has_at forward v n (get_or l k 0)) (get_or tallies' (get_or l k 0) 0) (get_or firsts' (get_or l k 0) 0) (value_at forward v n (get_or l k 0))
        → y ≡ get_or tallies' (get_or l k 0) 0 + weight_at forward v n (get_or l k 0)
        → a ≡ agrees_met (has_at forward v n (get_or l k 0)) (get_or tallies' (get_or l k 0) 0) (get_or firsts' (get_or l k 0) 0) (value_at forward v n (get_or l k 0))
        → NotedTo forward v n firsts tallies (reached l (k + 1)) (set firsts' (get_or l k 0) x) (set tallies' (get_or l k 0) y) (agree && a)
    noted_turn q e f h =
        let p = noted_here q in
        let j = get_or l k 0 in
        let b = o.listed.below k q in
        let s = p.tallies_row.kept j (omega arith) in
        let t = p.firsts_row.kept j (omega arith) in
        rw (reached_next l k)
        (record {
          firsts_row = rowed_set _ j p.firsts_row (omega (arith, o.firsts_room)) (e ∙ rw s refl);
          tallies_row = rowed_set _ j p.tallies_row (omega (arith, o.tallies_room)) f;
          agrees = every_next _ j p.agrees (h ∙ rw (s, t) refl);
        })

    pub noted_all : k ≤ count → count ≤ k → NotedTo forward v n firsts tallies g.items firsts' tallies' agree
    noted_all p q = listed_end (λ i. NotedTo forward v n firsts tallies i firsts' tallies' agree) (state_in v n) noted_blank o.listed k p q r

-- ---- all nodes

module _ (forward : Bool) (lost : Option ℕ) (v : View) (j n : ℕ) {mark : ℕ} (h : mark ≡ (survivors lost v).mark n) where
  copies_dead : mark ≡ 0 → copies_to forward (survivors lost v) j (n + 1) ≡ copies_to forward (survivors lost v) j n
  copies_dead d = copies_next forward (survivors lost v) j n ∙ rw (← h, eq-eqb mark 0 d) refl

  copies_live :
      (mark ≡ 0 → ⊥)
      → copies_to forward (survivors lost v) j (n + 1)
      ≡ cond (has_at forward v n j) (met_of (copies_to forward (survivors lost v) j n) (value_at forward v n j)) (copies_to forward (survivors lost v) j n)
  copies_live d = copies_next forward (survivors lost v) j n ∙ rw (← h, ne_eqb mark 0 d, survivor_entry lost v) refl

-- a copy more, by the notes
module _ (has : Bool) (s : Values) (x tally : ℕ) {first : ℕ} (e : first ≡ s.first) (f : not (eqb tally 0) ≡ s.seen) where
  met_first : first_met has tally first x ≡ (cond has (met_of s x) s).first
  met_first =
      by_cases has
      (λ p. by_cases (eqb tally 0)
      (λ q. let z : s.seen ≡ false = sym f ∙ rw q refl in rw (p, q, z) refl)
      (λ q. let z : s.seen ≡ true = sym f ∙ rw q refl in rw (p, q, z) e))
      (λ p. rw p e)

  met_equal : (s.equal && agrees_met has tally first x) ≡ (cond has (met_of s x) s).equal
  met_equal =
      by_cases has
      (λ p. by_cases (eqb tally 0)
      (λ q. let z : s.seen ≡ false = sym f ∙ rw q refl in rw (p, q, z) (and-true s.equal))
      (λ q. let z : s.seen ≡ true = sym f ∙ rw q refl in rw (p, q, z, e) refl))
      (λ p. rw p (and-true s.equal))

step_some : (a n : ℕ) → 1 ≤ a → 1 ≤ a * step_of n
step_some a n h = omega arith

met_seen :
    (number n : ℕ) (s : Values) (x tally : ℕ) → number < 4 → not (eqb tally 0) ≡ s.seen
    → not (eqb (tally + number_weight number * step_of n) 0) ≡ (cond (not (eqb number 0)) (met_of s x) s).seen
met_seen number n s x tally h f =
    by_cases (eqb number 0)
    (λ p. let z : tally + number_weight number * step_of n ≡ tally = omega (arith, ap (λ k. number_weight k * step_of n) (eqb-true number 0 p)) in rw (p, z) f)
    (λ p. let some = step_some (number_weight number) n (weight_some number h p) in
    rw (p, ne_eqb (tally + number_weight number * step_of n) 0 (λ (q : tally + number_weight number * step_of n ≡ 0). omega (arith, some))) (sym (Met-some s x)))

module _ (g : Geometry) (forward : Bool) (lost : Option ℕ) (v : View) (n : ℕ) {mark : ℕ} (h : mark ≡ (survivors lost v).mark n) where
  pub equal_dead : mark ≡ 0 → {equal : Bool} → equal ≡ equal_to g forward (survivors lost v) n → (equal && true) ≡ equal_to g forward (survivors lost v) (n + 1)
  unfolding equal_to
  equal_dead d {equal} e =
      and-true equal ∙ e ∙ every_ext g.items _ _ (λ j k. ap (λ (s : Values). s.equal) (sym (copies_dead forward lost v j n h d)))

  module _ {firsts tallies : List ℕ} (r : Noted g forward (survivors lost v) n firsts tallies) where
    pub note_dead : mark ≡ 0 → Noted g forward (survivors lost v) (n + 1) firsts tallies
    note_dead d = record {
      first = λ j k. r.first j k ∙ ap (λ (s : Values). s.first) (sym (copies_dead forward lost v j n h d));
      seen = λ j k. r.seen j k ∙ ap (λ (s : Values). s.seen) (sym (copies_dead forward lost v j n h d));
      firsts_room = r.firsts_room;
      tallies_room = r.tallies_room;
    }

    module _ (d : mark ≡ 0 → ⊥) {firsts' tallies' : List ℕ} {agree : Bool} (m : NotedTo forward v n firsts tallies g.items firsts' tallies' agree) where
      pub note_live : Noted g forward (survivors lost v) (n + 1) firsts' tallies'
      note_live = record {
        first = λ j k. m.firsts_row.made j k
            ∙ met_first (has_at forward v n j) (copies_to forward (survivors lost v) j n) (value_at forward v n j) (get_or tallies j 0) (r.first j k) (r.seen j k)
            ∙ ap (λ (s : Values). s.first) (sym (copies_live forward lost v j n h d));
        seen = λ j k. ap (λ x. not (eqb x 0)) (m.tallies_row.made j k)
            ∙ met_seen (copy_number (copy_on forward (v.entry n j))) n (copies_to forward (survivors lost v) j n) (value_at forward v n j) (get_or tallies j 0)
            (number_small forward (v.entry n j)) (r.seen j k)
            ∙ ap (λ (s : Values). s.seen) (sym (copies_live forward lost v j n h d));
        firsts_room = omega (arith, r.firsts_room, m.firsts_row.size);
        tallies_room = omega (arith, r.tallies_room, m.tallies_row.size);
      }

      pub equal_live : {equal : Bool} → equal ≡ equal_to g forward (survivors lost v) n → (equal && agree) ≡ equal_to g forward (survivors lost v) (n + 1)
      unfolding equal_to
      equal_live e = ap₂ (λ x y. x && y) e m.agrees ∙ every_and _ _ g.items
          ∙ every_ext g.items _ _
          (λ j k. met_equal (has_at forward v n j) (copies_to forward (survivors lost v) j n) (value_at forward v n j) (get_or tallies j 0) (r.first j k) (r.seen j k)
          ∙ ap (λ (s : Values). s.equal) (sym (copies_live forward lost v j n h d)))

-- before the first node
pub note_zeros :
    (g : Geometry) (forward : Bool) (w : View) {firsts tallies : List ℕ} → g.items ≤ length firsts → g.items ≤ length tallies
    → ((j : ℕ) → j < g.items → get_or firsts j 0 ≡ 0) → ((j : ℕ) → j < g.items → get_or tallies j 0 ≡ 0) → Noted g forward w 0 firsts tallies
note_zeros g forward w p q e f = record {
  first = λ j l. e j l ∙ ap (λ (s : Values). s.first) (copies_start forward w j);
  seen = λ j l. ap (λ x. not (eqb x 0)) (f j l) ∙ ap (λ (s : Values). s.seen) (copies_start forward w j);
  firsts_room = p;
  tallies_room = q;
}

pub equal_none : (g : Geometry) (forward : Bool) (w : View) → true ≡ equal_to g forward w 0
unfolding equal_to
equal_none g forward w = sym (every_all g.items _ (λ j l. ap (λ (s : Values). s.equal) (sym (copies_start forward w j))))

-- after the last
pub notes_fit :
    (g : Geometry) (forward : Bool) (w : View) (tallies : List ℕ) {equal seen : Bool}
    → ((j : ℕ) → j < g.items → not (eqb (get_or tallies j 0) 0) ≡ (copies_to forward w j g.nodes).seen) → equal ≡ equal_to g forward w g.nodes
    → seen ≡ every (λ j. not (eqb (get_or tallies j 0) 0)) g.items → (seen && equal) ≡ every (item_fits g forward w) g.items
unfolding equal_to item_fits copies_on copies_to
notes_fit g forward w tallies r e f =
    ap₂ (λ x y. x && y) f e ∙ every_and _ _ g.items
    ∙ every_ext g.items _ _ (λ j l. ap (λ x. x && (copies_to forward w j g.nodes).equal) (r j l))
