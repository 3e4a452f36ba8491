-- The laws of `specs/code/PairsCode.antt`.
use Rattle.std.specs.Prelude.{Option}
use Prim.Native.Nat.{ℕ, ◌≤◌, ◌<◌}
use mathlib.Core.Path.{◌≡◌, sym, ap, subst, ◌∙◌}
use mathlib.Core.Bool.{Bool, true}
use mathlib.Core.List.{List, []}
use native.Mathlib.Omega.{arith}
use native.Mathlib.Decide.{ℕ_discrete}
use lib.ListN.{length, drop}
use Rattle.table.specs.declared.geometry.Geometry.{Geometry}
use Rattle.table.specs.Geometry.{words_of}
use Rattle.table.specs.declared.stores.Stores.{Stores}
use Rattle.table.specs.Made.{Made, shown}
use Rattle.table.proofs.Laws.Made.{made_none, made_with}
use Rattle.table.proofs.Laws.Stores.{All, stored_none}
use Rattle.table.specs.View.{View, view, updates}
use Rattle.checkpoints.specs.Checkpoint.{entries_to}
use Rattle.survivors.specs.Survivors.{survivors, largest_number}
use Rattle.recovery.specs.Sides.{roll_change, roll_stores}
use Rattle.recovery.specs.Numbering.{number_stores, partners_stores}
use Rattle.recovery.specs.code.Tallies.{Tallied}
use Rattle.recovery.proofs.Laws.Tallies.{holders_told, holder_told}
use Rattle.recovery.specs.code.NumberingCode.{Unkept}
use Rattle.recovery.proofs.Laws.Followed.{Entered, stored_any, view_left, entered_within, survivors_entered}
use Rattle.recovery.specs.code.PartnersCode.{AgreesTo, Ready, Turned, Filled, FilledFrom, Settled, Settles}
use Rattle.recovery.proofs.Laws.PartnersCode.{filled_ready}
use Rattle.recovery.proofs.Laws.RecoverStages.{entered_roll, entered_number}
use Rattle.recovery.proofs.Laws.RollVia.{roll_via}
use Rattle.recovery.proofs.Laws.NumberVia.{number_via}
use Rattle.recovery.proofs.Laws.StagedVia.{via_end}
use Rattle.recovery.proofs.Laws.AnyTable.{found, any_ready}
use Rattle.recovery.proofs.Laws.CensusRolled.{rolled_tallied, rolled_unkept, rolled_agrees, plain_numbers}
use Rattle.recovery.specs.code.PairsCode.{Pairable, Pairs, Restorable}

-- ---- before the partners

-- the copies are numbered, and the scratch tells the frames in use
pub record Counted (lost : Option ℕ) (a a₁ : Stores) (s s₁ tallies : List ℕ) : Type 0 where
  pub numbered : Made a (number_stores a.g (survivors lost (shown a))) a₁
  pub ready : Ready lost a₁ s₁
  pub settles : Settles lost a₁ tallies
  pub rest : drop a₁.g.nodes s₁ ≡ drop a₁.g.nodes s
  pub size : length s₁ ≡ length s

pub counted_all :
    {lost : Option ℕ} {a a₁ : Stores} {s s₁ tallies : List ℕ} → Counted lost a a₁ s s₁ tallies
    → Ready lost a₁ s₁ × Settles lost a₁ tallies
counted_all k = (k.ready, k.settles)

-- and then the partners
pub counted_pairs :
    {lost : Option ℕ} {a a₁ a₂ : Stores} {s s₁ s₂ tallies : List ℕ} → Counted lost a a₁ s s₁ tallies
    → Turned lost (partners_stores a₁.g) a₁ a₂ s₁ s₂ → Pairs lost a a₂ s s₂
counted_pairs {a₁ = a₁} k r = record {
  between = a₁;
  numbered = k.numbered;
  partnered = record { made = r.made; counts = r.counts; rest = r.rest ∙ k.rest; size = r.size ∙ k.size };
}

module _ (lost : Option ℕ) {plain : Bool} {a : Stores} {s tallies u : List ℕ} (p : Pairable lost plain a s tallies u) where
  abbrev w : View
  w = survivors lost (shown a)

  -- nothing to number
  pub plain_counted : plain ≡ true → {s₁ : List ℕ} → FilledFrom a.g.nodes a.g.nodes u s s₁ → Counted lost a a s s₁ tallies
  plain_counted e f = record {
    numbered = made_with (made_none a) (elim (ℕ_discrete a.left 0) [
      | yes z ↦ rw z (stored_any (number_stores a.g w) (stored_none a.g 0 a.table.now))
      | no z ↦ rw (p.nothing e z) (stored_none a.g a.left a.table.now)
    ]);
    ready = record {
      long = p.numbering.long;
      room = omega (arith, p.room, f.size);
      counts = record { known = λ z. record { at = λ n l v. f.same n l ∙ (p.agrees e z).at n l v } };
    };
    settles = record { settled = λ z. rw (p.nothing e z) at (p.settled z) };
    rest = f.rest;
    size = f.size;
  }

  -- surplus copies
  module _ {a₁ : Stores} (m : Made a (number_stores a.g w) a₁) where
    numbered_view : (a₁.left ≡ 0 → ⊥) → survivors lost (view a.g a₁.table.now) ≡ updates (number_stores a.g w) w
    numbered_view z =
        ap (survivors lost) (view_left p.numbering.long (entered_within a.g (entered_number a.g w)) z m.stored)
        ∙ survivors_entered a.g lost (shown a) (entered_number a.g w)

    pub surplus_counted : {s₁ : List ℕ} → Filled a₁.g (survivors lost (shown a₁)) a₁.g.nodes s s₁ → Counted lost a a₁ s s₁ tallies
    surplus_counted f = record {
      numbered = m;
      ready = filled_ready lost f (rw m.same_geometry (omega (arith, p.numbering.long, m.stored.size))) (rw m.same_geometry p.room);
      settles = record {
        settled = λ z.
            rw m.same_geometry
            (subst (λ (x : View). Settled a.g x tallies) (sym (numbered_view z)) (p.settled (λ q. z (omega (arith, m.stored.rest)))));
      };
      rest = f.rest;
      size = f.size;
    }

-- ---- after the rolling

module _ (g : Geometry) {forward simple : Bool} (w : View) {tallies u : List ℕ} (small : g.nodes < 256) (r : Restorable g forward simple w tallies u) where
  abbrev rolled : View
  rolled = updates (entries_to g w (roll_change forward)) w

  rolled_tallies : Tallied g rolled tallies
  rolled_tallies = rolled_tallied g forward w (any_ready g w r.formed r.fit).forms tallies r.tally

  rolled_nothing_kept : Unkept g rolled
  rolled_nothing_kept = rolled_unkept g forward w (any_ready g w r.formed r.fit).forms

  rolled_settled : Settled g (updates (number_stores g rolled) rolled) tallies
  unfolding roll_stores
  rolled_settled b h =
      let ready = any_ready g w r.formed r.fit in
      let q = (via_end (roll_via g (found g w) (largest_number g w) w ready)).1 in
      let q' = rw (← r.way) at q in
      let o = ((via_end (number_via g (found g w) w rolled q')).1 b h).1 in
      let e = holders_told g rolled b small (rolled_tallies b h) in
      record {
        skip = λ m. o.many (omega (arith, e, m));
        single = λ m. o.single (omega (arith, e, m));
        holder = λ m. o.holder (omega (arith, e, m)) (holder_told g rolled b small (rolled_tallies b h) (omega (arith, e, m, o.some)));
      }

  rolled_nothing : simple ≡ true → number_stores g rolled ≡ []
  rolled_nothing e = plain_numbers g rolled tallies small rolled_tallies rolled_nothing_kept (sym r.plain_told ∙ e)

  rolled_frames : AgreesTo g rolled u g.nodes
  rolled_frames = rolled_agrees g forward w (any_ready g w r.formed r.fit).forms r.held

pub rolled_pairable :
    (lost : Option ℕ) {forward simple : Bool} {a a₁ : Stores} {s tallies u : List ℕ} → words_of a.g ≤ length a.table.now
    → a.g.nodes ≤ length s → a.g.nodes ≤ length u → a.g.nodes < 256 → Restorable a.g forward simple (survivors lost (shown a)) tallies u
    → Made a (entries_to a.g (survivors lost (shown a)) (roll_change forward)) a₁ → Pairable lost simple a₁ s tallies u
unfolding roll_stores
rolled_pairable lost {forward} {a = a} {a₁} long room used small r m = record {
  room = rw m.same_geometry room;
  used_room = rw m.same_geometry used;
  numbering = rw m.same_geometry record {
    long = omega (arith, long, m.stored.size);
    room = r.tallies_room;
    tallied = λ z. rw (viewed z) (rolled_tallies a.g (survivors lost (shown a)) small r);
    unkept = λ z. rw (viewed z) (rolled_nothing_kept a.g (survivors lost (shown a)) small r);
  };
  settled = λ z. rw (m.same_geometry, viewed z) (rolled_settled a.g (survivors lost (shown a)) small r);
  nothing = λ e z. rw (m.same_geometry, viewed z) (rolled_nothing a.g (survivors lost (shown a)) small r e);
  agrees = λ e z. rw (m.same_geometry, viewed z) (rolled_frames a.g (survivors lost (shown a)) small r);
}
  where
    entered : All (Entered a.g) (entries_to a.g (survivors lost (shown a)) (roll_change forward))
    entered = rw (← r.way) at (entered_roll a.g (survivors lost (shown a)))

    viewed :
        (a₁.left ≡ 0 → ⊥) → survivors lost (view a.g a₁.table.now)
        ≡ updates (entries_to a.g (survivors lost (shown a)) (roll_change forward)) (survivors lost (shown a))
    viewed z =
        ap (survivors lost) (view_left long (entered_within a.g entered) z m.stored) ∙ survivors_entered a.g lost (shown a) entered
