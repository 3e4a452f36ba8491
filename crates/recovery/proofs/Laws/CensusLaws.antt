-- The census as the code goes: a law for each turn and each way out.
use Rattle.std.specs.Prelude.{Option}
use Prim.Native.Nat.{ℕ, ◌+◌, ◌*◌, ◌/◌, ◌%◌, ◌^◌, ◌≤◌, ◌<◌}
use mathlib.Core.Path.{◌≡◌, refl, sym, ap, ap₂, subst, ◌∙◌}
use mathlib.Core.Bool.{Bool, true, false, ◌&&◌, and-true, and_comm}
use mathlib.Core.List.{List}
use native.Mathlib.Omega.{arith}
use native.Mathlib.Decide.{ℕ_discrete}
use lib.Bits.{bit_or}
use lib.Dec.{eqb, leb}
use lib.ListN.{length, get_or, set, length-set}
use lib.Seq.{get_or-set_same, get_or-set_other}
use borrow.Author.Tests.{eq-eqb, ne_eqb}
use Rattle.counting.proofs.Laws.Tests.{by_cases, and_mixed, no_both, none_added}
use Rattle.counting.proofs.Laws.Differences.{none_gathered}
use Rattle.counting.specs.Counting.{every, one, count}
use Rattle.counting.proofs.Laws.Counting.{every_and, sum_none, sum_next, count_none, count_next}
use Rattle.counting.proofs.Laws.Crowded.{sum_most}
use Rattle.table.specs.declared.geometry.Geometry.{Geometry}
use Rattle.table.specs.Geometry.{entry_at, Placed}
use Rattle.table.proofs.Laws.Geometry.{product}
use Rattle.table.specs.Words.{mark_form}
use Rattle.table.specs.View.{Entry, View, view, live, entry_in}
use Rattle.table.proofs.Laws.View.{entry_read}
use Rattle.table.specs.Copies.{copy_number}
use Rattle.entries.specs.Frames.{set_frames, frames_in}
use Rattle.entries.specs.Sound.{marks_form, node_sound, nodes_sound}
use Rattle.entries.proofs.Laws.Sound.{node_dead}
use Rattle.recovery.specs.declared.census.Turn.{Turn}
use Rattle.recovery.specs.declared.census.Note.{Note}
use Rattle.recovery.specs.declared.census.Found.{Found}
use Rattle.recovery.specs.declared.census.Kinds.{Kinds}
use Rattle.recovery.specs.Recover.{survivors_formed}
use Rattle.survivors.specs.Survivors.{survivors}
use Rattle.survivors.proofs.Laws.SurvivorsCode.{survivor_entry}
use Rattle.recovery.specs.Sides.{copy_on}
use Rattle.recovery.specs.code.Rows.{state_in, Listed, reached, RowTo}
use Rattle.recovery.proofs.Laws.Rows.{reached_start, reached_next, listed_turn, listed_end}
use Rattle.recovery.proofs.Laws.RowsSound.{row_start, row_turn, row_all, row_sound}
use Rattle.recovery.specs.code.Tallies.{number_weight, step_of}
use Rattle.recovery.specs.code.Notes.{has_on, NotedTo, equal_to}
use Rattle.recovery.proofs.Laws.Notes.{Notable, noted_start, noted_turn, noted_all, note_dead, note_live, equal_dead, equal_live, number_blank, note_zeros, notes_fit}
use Rattle.recovery.specs.code.Census.{EntryNoted, RowReady, RowNoted, side_weight, held_on, Takable, CensusTo, NodeReady, NodeNoted, NodesNoted, KindsTold, TakenIn}

-- ---- a row

-- what a row's pass needs, and the list that it goes by
pub record RowListed (g : Geometry) (n : ℕ) (t : List ℕ) (start : ℕ) (l : List ℕ) (count : ℕ) (s f : List ℕ) : Type 0 where
  pub there : n < g.nodes
  pub placed : Placed g n 0 start
  pub notable : Notable g (view g t) n l count f s

-- the items before i are passed: the other bits of their state words, their weights' sum by its digits, and the bits in which copies differ
pub record RowPassed (forward : Bool) (v : View) (n i : ℕ) (s s' f f' : List ℕ) (low sum differ : ℕ) : Type 0 where
  pub frames : ℕ
  pub first : ℕ
  pub second : ℕ
  pub out : ℕ
  pub place : ℕ
  pub held : ℕ
  pub is : sum ≡ frames + 2 ^ 10 * first + 2 ^ 20 * second + 2 ^ 30 * out + 2 ^ 40 * place + 2 ^ 50 * held
  pub first_few : first ≤ i
  pub second_few : second ≤ i
  pub out_few : out ≤ i
  pub place_few : place ≤ i
  pub held_few : held ≤ i
  pub row : RowTo v n i (eqb low 0 && eqb out 0) frames
  pub noted : NotedTo forward v n f s i f' s' (eqb differ 0)
  pub held_to : held ≡ count (λ b. has_on forward (v.entry n b)) i

pub row_lists :
    (g : Geometry) (n : ℕ) (t : List ℕ) {start : ℕ} {l l' : List ℕ} {count : ℕ} {s f : List ℕ} → RowReady g n t l s f → Placed g n 0 start
    → Listed (state_in (view g t) n) g.items l' count → RowListed g n t start l' count s f
row_lists g n t r a o = record { there = r.there; placed = a; notable = record { listed = o; firsts_room = r.firsts_room; tallies_room = r.tallies_room } }

pub passed_start : (forward : Bool) (v : View) (n : ℕ) (l s f : List ℕ) → RowPassed forward v n (reached l 0) s s f f 0 0 0
passed_start forward v n l s f = record {
  frames = 0;
  first = 0;
  second = 0;
  out = 0;
  place = 0;
  held = 0;
  is = refl;
  first_few = omega arith;
  second_few = omega arith;
  out_few = omega arith;
  place_few = omega arith;
  held_few = omega arith;
  row = row_start v n l;
  noted = noted_start forward v n l f s;
  held_to = rw (reached_start l) (count_none _);
}

-- the entry that the code reads is the view's
entry_here :
    (g : Geometry) (n : ℕ) (t : List ℕ) (j : ℕ) {start : ℕ} → n < g.nodes → j < g.items → Placed g n 0 start
    → (view g t).entry n j ≡ entry_in t (start + 3 * j)
entry_here g n t j {start} h k a =
    let e : entry_at g n j ≡ start + 3 * j = omega (arith, a.at) in
    entry_read g t n j h k ∙ ap (entry_in t) e

module _ (forward : Bool) (v : View) (n : ℕ) where
  held_blank : {held : ℕ} (j : ℕ) → state_in v n j ≡ 0 → held ≡ count (λ b. has_on forward (v.entry n b)) j
      → held ≡ count (λ b. has_on forward (v.entry n b)) (j + 1)
  held_blank j e h =
      let z : has_on forward (v.entry n j) ≡ false = rw (number_blank forward (v.entry n j) e) refl in
      omega (arith, h, count_next (λ b. has_on forward (v.entry n b)) j, ap one z)

-- the tests of forms, in the order in which the code makes them
forms_turn : (low here : Bool) (out more : ℕ) → ((low && eqb out 0) && (eqb more 0 && here)) ≡ ((low && here) && eqb (out + more) 0)
forms_turn low here out more =
    ap (λ q. (low && eqb out 0) && q) (and_comm (eqb more 0) here)
    ∙ and_mixed low (eqb out 0) here (eqb more 0) ∙ ap (λ q. (low && here) && q) (sym (none_added out more))

module _ (g : Geometry) (forward : Bool) (n : ℕ) (t : List ℕ) {start : ℕ} {l : List ℕ} {many : ℕ} {s s' f f' : List ℕ} {low sum differ : ℕ}
    (o : RowListed g n t start l many s f) (k : ℕ) (p : RowPassed forward (view g t) n (reached l k) s s' f f' low sum differ) where
  reached_few : g.items ≤ 256 → k ≤ many → reached l k ≤ 256
  reached_few sized q = elim (ℕ_discrete k many) [
    | yes z ↦ (let a = o.notable.listed.all in rw z (omega (arith, a)))
    | no z ↦ (let a = o.notable.listed.ascends k (omega arith) in let b = o.notable.listed.below k (omega arith) in omega arith)
  ]

  frames_few : g.items ≤ 256 → k ≤ many → p.frames ≤ 512
  frames_few sized q = omega (arith, p.row.few, reached_few sized q)

  -- after it
  passed_next :
      k < many → {s₁ f₁ : List ℕ} {r : Note} → EntryNoted forward (step_of n) (entry_in t (start + 3 * get_or l k 0)) (get_or l k 0) s' s₁ f' f₁ r
      → RowPassed forward (view g t) n (reached l (k + 1)) s s₁ f f₁ (bit_or low r.low) (sum + r.weight) (bit_or differ r.differ)
  passed_next q {s₁} {f₁} {r} m =
      let u = o.notable.listed in
      let j = get_or l k 0 in
      let w = m.weighed in
      let z = entry_here g n t j o.there (u.below k q) o.placed in
      let e : state_in (view g t) n j ≡ (entry_in t (start + 3 * j)).state = ap (λ (x : Entry). x.state) z in
      let up : reached l k + 1 ≤ reached l (k + 1) = omega (arith, u.ascends k q, reached_next l k) in
      record {
        frames = p.frames + frames_in (entry_in t (start + 3 * j)).state;
        first = p.first + w.first;
        second = p.second + w.second;
        out = p.out + w.out;
        place = p.place + w.place;
        held = p.held + w.has;
        is = omega (arith, p.is, w.is);
        first_few = omega (arith, p.first_few, w.first_few);
        second_few = omega (arith, p.second_few, w.second_few);
        out_few = omega (arith, p.out_few, w.out_few);
        place_few = omega (arith, p.place_few, w.place_few);
        held_few = omega (arith, p.held_few, w.has_few);
        row = subst (λ (b : Bool). RowTo (view g t) n (reached l (k + 1)) b (p.frames + frames_in (entry_in t (start + 3 * j)).state))
            (ap (λ (b : ℕ). (eqb low 0 && eqb p.out 0) && (eqb w.out 0 && eqb b 0)) (sym m.low) ∙ forms_turn (eqb low 0) (eqb r.low 0) p.out w.out
            ∙ ap (λ (b : Bool). b && eqb (p.out + w.out) 0) (sym (none_gathered low r.low)))
            (row_turn (view g t) n u k p.row q (sym e) (sym w.form) refl w.frames_few);
        noted = rw (m.tallies, m.firsts, none_gathered differ r.differ)
            (noted_turn forward (view g t) n g o.notable k p.noted q (rw z refl) (rw z refl) (m.agree ∙ rw z refl));
        held_to = rw (reached_next l k)
            (omega (
              arith,
              listed_turn (λ i. p.held ≡ count (λ b. has_on forward ((view g t).entry n b)) i) (state_in (view g t) n) (held_blank forward (view g t) n) u k q p.held_to,
              count_next (λ b. has_on forward ((view g t).entry n b)) j,
              w.held (entry_in t (start + 3 * j)) refl,
              ap (λ x. one (has_on forward x)) z,
            ));
      }

  pub passed_turn :
      {step : ℕ} → step ≡ step_of n → k < many → {s₁ f₁ : List ℕ} {r : Note}
      → EntryNoted forward step (entry_in t (start + 3 * get_or l k 0)) (get_or l k 0) s' s₁ f' f₁ r
      → RowPassed forward (view g t) n (reached l (k + 1)) s s₁ f f₁ (bit_or low r.low) (sum + r.weight) (bit_or differ r.differ)
  passed_turn e q {s₁} {f₁} {r} m =
      passed_next q (subst (λ (x : ℕ). EntryNoted forward x (entry_in t (start + 3 * get_or l k 0)) (get_or l k 0) s' s₁ f' f₁ r) e m)

  pub passed_all :
      g.items ≤ 256 → k ≤ many → many ≤ k → {l₀ l₁ : List ℕ} → length l₁ ≡ length l₀
      → RowNoted g forward (view g t) n l₀ l₁ s s' f f'
      (record { forms = eqb low 0 && eqb (sum / 2 ^ 30 % 1024) 0; frames = sum % 1024; held = sum / 2 ^ 50; agree = eqb differ 0 })
  passed_all sized a b z =
      let c = reached_few sized a in
      let d = frames_few sized a in
      let frames-digit : sum % 1024 ≡ p.frames = omega (arith, p.is) in
      let above : sum / 2 ^ 30 ≡ p.out + 2 ^ 10 * p.place + 2 ^ 20 * p.held = omega (arith, p.is, p.first_few, p.second_few) in
      let out-digit : sum / 2 ^ 30 % 1024 ≡ p.out = rw above (omega (arith, p.out_few)) in
      let held-digit : sum / 2 ^ 50 ≡ p.held = omega (arith, p.is, p.first_few, p.second_few, p.out_few, p.place_few) in
      record {
        row = rw (frames-digit, out-digit) (row_all (view g t) n o.notable.listed k p.row a b);
        noted = noted_all forward (view g t) n g o.notable k p.noted a b;
        held = held-digit
            ∙ listed_end (λ i. p.held ≡ count (λ b. has_on forward ((view g t).entry n b)) i) (state_in (view g t) n) (held_blank forward (view g t) n) o.notable.listed k a b p.held_to;
        size = z;
      }

-- ---- a node

weight_small : (forward : Bool) (w : View) (b n : ℕ) → n < 256 → side_weight forward w b n ≤ 2 ^ 40
unfolding side_weight
weight_small forward w b n h = by_cases (live w n)
    (λ e. let k = copy_number (copy_on forward (w.entry n b)) in
    let few : number_weight k ≤ 1025 = omega arith in
    let near : step_of n ≤ 2 ^ 29 = omega arith in
    rw e (omega (arith, product 1025 (2 ^ 29) few near)))
    (λ e. rw e (omega arith))

pub row_ready :
    (g : Geometry) (forward : Bool) (w : View) (n : ℕ) {t l s f u : List ℕ} → n < 256 → NodeReady g forward w n t l s f u → RowReady g n t l s f
row_ready g forward w n h r = record {
  there = r.there;
  long = r.long;
  list_room = r.list_room;
  tallies_room = r.before.noted.tallies_room;
  firsts_room = r.before.noted.firsts_room;
  sized = r.sized;
  few = λ j l. omega (arith, r.before.tally j l, sum_most n (2 ^ 40) (side_weight forward w j) (λ k q. weight_small forward w j k (omega arith)));
}

module _ (g : Geometry) (forward : Bool) (lost : Option ℕ) (v : View) (n : ℕ) {mark : ℕ} {form : Bool} (h : mark ≡ (survivors lost v).mark n) (m : form ≡ mark_form mark)
    {t l s f u : List ℕ} (r : NodeReady g forward (survivors lost v) n t l s f u) where
  census_dead : mark ≡ 0 → CensusTo g forward (survivors lost v) (n + 1) s f u
  unfolding side_weight
  census_dead d = record {
    noted = note_dead g forward lost v n h r.before.noted d;
    tally = λ j k. let z : side_weight forward (survivors lost v) j n ≡ 0 = rw (← h, eq-eqb mark 0 d) refl in
        omega (arith, r.before.tally j k, sum_next (side_weight forward (survivors lost v) j) n {b = 0} refl (sym z));
    held = λ k q e. elim (ℕ_discrete k n) [
      | yes z ↦ absurd (no_both e (rw (z, ← h, eq-eqb mark 0 d) refl))
      | no z ↦ r.before.held k (omega arith) e
    ];
    used_room = r.before.used_room;
  }

  pub node_noted_dead : mark ≡ 0 → NodeNoted g forward (survivors lost v) n l l s f u (record { formed = form; agree = true })
  node_noted_dead d = record {
    after = census_dead d;
    formed = sym (and-true form) ∙ ap₂ ◌&&◌ (m ∙ ap mark_form h) (node_dead g (survivors lost v) n mark h d);
    agree = equal_dead g forward lost v n h d;
    size = refl;
  }

  module _ (d : mark ≡ 0 → ⊥) {l' s' f' : List ℕ} {q : Turn} (o : RowNoted g forward v n l l' s s' f f' q) where
    census_live : CensusTo g forward (survivors lost v) (n + 1) s' f' (set u n q.held)
    unfolding side_weight held_on
    census_live = record {
      noted = note_live g forward lost v n h r.before.noted d o.noted;
      tally = λ j k. o.noted.tallies_row.made j k
          ∙ sum_next (side_weight forward (survivors lost v) j) n (r.before.tally j k) (rw (← h, ne_eqb mark 0 d, survivor_entry lost v) refl);
      held = λ k p e. elim (ℕ_discrete k n) [
        | yes z ↦ rw z (get_or-set_same u n q.held 0 (omega (arith, r.there, r.before.used_room)) ∙ o.held ∙ rw (survivor_entry lost v) refl)
        | no z ↦ get_or-set_other u n k q.held 0 z ∙ r.before.held k (omega arith) e
      ];
      used_room = omega (arith, r.before.used_room, length-set u n q.held);
    }

    pub node_noted_live :
        {frames : ℕ} → frames ≡ set_frames g
        → NodeNoted g forward (survivors lost v) n l l' s' f' (set u n q.held) (record { formed = form && (q.forms && leb q.frames frames); agree = q.agree })
    node_noted_live e = record {
      after = census_live;
      formed = ap₂ ◌&&◌ (m ∙ ap mark_form h) (row_sound g lost v n h d o.row e);
      agree = equal_live g forward lost v n h r.before.noted d o.noted;
      size = o.size;
    }

-- ---- all nodes

-- the mark and the entries of a node hold
abbrev pub node_formed : Geometry → View → ℕ → Bool
node_formed g w k = mark_form (w.mark k) && node_sound g w k

pub census_start : (g : Geometry) (forward : Bool) (w : View) {t l s f u : List ℕ} → Takable g t l s f u → CensusTo g forward w 0 s f u
census_start g forward w k = record {
  noted = note_zeros g forward w k.firsts_room k.tallies_room k.firsts_zero k.tallies_zero;
  tally = λ j l. k.tallies_zero j l ∙ sum_none (side_weight forward w j);
  held = λ n l. absurd (omega arith);
  used_room = k.used_room;
}

formed_all : (g : Geometry) (w : View) → every (node_formed g w) g.nodes ≡ survivors_formed g w
unfolding survivors_formed marks_form nodes_sound
formed_all g w = sym (every_and (λ k. mark_form (w.mark k)) (node_sound g w) g.nodes)

pub nodes_noted :
    (g : Geometry) (forward : Bool) (w : View) (n : ℕ) {l l' s f u : List ℕ} {formed agree : Bool} → n ≤ g.nodes → g.nodes ≤ n → CensusTo g forward w n s f u
    → formed ≡ every (node_formed g w) n → agree ≡ equal_to g forward w n → length l' ≡ length l
    → NodesNoted g forward w l l' s u (record { formed = formed; agree = agree })
nodes_noted g forward w n {s = s} {f} {u} p q c a b z =
    let e : n ≡ g.nodes = omega arith in
    let c' : CensusTo g forward w g.nodes s f u = rw e at c in
    record {
      formed = a ∙ ap (every (node_formed g w)) e ∙ formed_all g w;
      agree = b ∙ ap (equal_to g forward w) e;
      seen = c'.noted.seen;
      tally = c'.tally;
      tallies_room = c'.noted.tallies_room;
      held = c'.held;
      used_room = c'.used_room;
      size = z;
    }

-- ---- the census

pub taken :
    (g : Geometry) (forward : Bool) (w : View) {l l' s u : List ℕ} {found : Found} {kinds : Kinds} → NodesNoted g forward w l l' s u found → KindsTold g.items s kinds
    → TakenIn g forward w l l' s u (record { formed = found.formed; fit = kinds.seen && found.agree; plain = kinds.plain })
taken g forward w {s = s} n k = record {
  taken = record {
    formed = n.formed;
    fit = notes_fit g forward w s n.seen n.agree k.seen;
    plain = k.plain;
    tally = n.tally;
    tallies_room = n.tallies_room;
    held = n.held;
    used_room = n.used_room;
  };
  size = n.size;
}
