-- The census of the survivors: what one pass over their occupied entries tells of word forms, frames, and the recovery copies on a side.
use Rattle.std.specs.Prelude.{ℕ, ◌+◌, ◌*◌, ◌/◌, ◌%◌, ◌^◌, ◌≤◌, ◌<◌, ◌≡◌, Bool, true, false, cond, not, ◌&&◌, ◌||◌, List, eqb, length, get_or, set}
use Rattle.counting.specs.Counting.{every, sum, one, count}
use Rattle.table.specs.declared.geometry.Geometry.{Geometry}
use Rattle.table.specs.Geometry.{words_of}
use Rattle.table.specs.declared.changes.Event.TheVariants.{RollForward}
use Rattle.table.specs.Words.{state_form, mark_form}
use Rattle.table.specs.Changes.{change_of, checkpoint_of}
use Rattle.table.specs.View.{Entry, View, live}
use Rattle.table.specs.Copies.{copy_number, copy_value}
use Rattle.entries.specs.Frames.{frame_of, frames_in}
use Rattle.entries.specs.code.Survey.{codes_form}
use Rattle.entries.specs.Sound.{node_sound}
use Rattle.recovery.specs.declared.census.Turn.{Turn}
use Rattle.recovery.specs.declared.census.Note.{Note}
use Rattle.recovery.specs.declared.census.Found.{Found}
use Rattle.recovery.specs.declared.census.Kinds.{Kinds}
use Rattle.recovery.specs.declared.census.Census.{Census}
use Rattle.recovery.specs.Recover.{survivors_formed}
use Rattle.recovery.specs.Sides.{copy_on, item_fits}
use Rattle.recovery.specs.code.Notes.{copies_to, has_on, first_met, agrees_met, NotedTo, Noted, equal_to}
use Rattle.recovery.specs.code.Tallies.{number_weight, step_of, plain}
use Rattle.recovery.specs.code.Rows.{RowTo}

-- ---- an entry

-- the number of the recovery copy on a side by the current and the kept code, and 1 if it is the kept one, else 0; forward, the state table takes a code
-- modulo 8, so that codes 12 to 15 have a number too
abbrev pub number_on : Bool → ℕ → ℕ → ℕ
number_on true c k = checkpoint_of (change_of c RollForward)
number_on false c k = cond (eqb c 4) 1 (cond (eqb c 5) 2 k)

abbrev pub place_on : Bool → ℕ → ℕ → ℕ
place_on true c k = 0
place_on false c k = cond (eqb c 4 || eqb c 5) 0 (frame_of k)

-- the weight of an entry on a side, by the six top bits of its state word: six digits of ten bits
unfoldable pub side_bits : Bool → ℕ → ℕ
side_bits forward top =
    frame_of (top / 4) + frame_of (top % 4)
    + 2 ^ 10 * (number_on forward (top / 4) (top % 4) % 2)
    + 2 ^ 20 * (number_on forward (top / 4) (top % 4) / 2 % 2)
    + 2 ^ 30 * one (not (codes_form top))
    + 2 ^ 40 * place_on forward (top / 4) (top % 4)
    + 2 ^ 50 * one (not (eqb (number_on forward (top / 4) (top % 4)) 0))

-- the digits of a weight r, and what they tell of an entry with the state word w: the frames in use, whether the recovery copy has number 1, number 2,
-- whether the codes are out of form, whether it is the kept copy, whether there is one
pub record Weighed (forward : Bool) (w r : ℕ) : Type 0 where
  pub first : ℕ
  pub second : ℕ
  pub out : ℕ
  pub place : ℕ
  pub has : ℕ
  pub is : r ≡ frames_in w + 2 ^ 10 * first + 2 ^ 20 * second + 2 ^ 30 * out + 2 ^ 40 * place + 2 ^ 50 * has
  pub frames_few : frames_in w ≤ 2
  pub first_few : first ≤ 1
  pub second_few : second ≤ 1
  pub out_few : out ≤ 1
  pub place_few : place ≤ 1
  pub has_few : has ≤ 1
  pub number : (e : Entry) → e.state ≡ w → number_weight (copy_number (copy_on forward e)) ≡ first + 2 ^ 10 * second
  pub some : (e : Entry) → e.state ≡ w → has_on forward e ≡ not (eqb (first + 2 ^ 10 * second) 0)
  pub held : (e : Entry) → e.state ≡ w → has ≡ one (has_on forward e)
  pub value : (e : Entry) → e.state ≡ w → has_on forward e ≡ true → copy_value (copy_on forward e) ≡ cond (eqb place 0) e.value e.kept_value
  pub form : state_form w ≡ (eqb out 0 && eqb (w % 2 ^ 58) 0)

-- what an entry of item j tells beside the tallies s and the first values f, and what it makes of them
pub record EntryNoted (forward : Bool) (step : ℕ) (e : Entry) (j : ℕ) (s s' f f' : List ℕ) (r : Note) : Type 0 where
  pub weighed : Weighed forward e.state r.weight
  pub low : r.low ≡ e.state % 2 ^ 58
  pub agree : eqb r.differ 0 ≡ agrees_met (has_on forward e) (get_or s j 0) (get_or f j 0) (copy_value (copy_on forward e))
  pub tallies : s' ≡ set s j (get_or s j 0 + number_weight (copy_number (copy_on forward e)) * step)
  pub firsts : f' ≡ set f j (first_met (has_on forward e) (get_or s j 0) (get_or f j 0) (copy_value (copy_on forward e)))

-- ---- a row

pub record RowReady (g : Geometry) (n : ℕ) (t l s f : List ℕ) : Type 0 where
  pub there : n < g.nodes
  pub long : words_of g ≤ length t
  pub list_room : g.items ≤ length l
  pub tallies_room : g.items ≤ length s
  pub firsts_room : g.items ≤ length f
  pub sized : g.items ≤ 256
  pub few : (j : ℕ) → j < g.items → get_or s j 0 ≤ 2 ^ 40 * n

-- what the row of node n tells; of the list only its length
pub record RowNoted (g : Geometry) (forward : Bool) (v : View) (n : ℕ) (l l' s s' f f' : List ℕ) (r : Turn) : Type 0 where
  pub row : RowTo v n g.items r.forms r.frames
  pub noted : NotedTo forward v n f s g.items f' s' r.agree
  pub held : r.held ≡ count (λ b. has_on forward (v.entry n b)) g.items
  pub size : length l' ≡ length l

-- ---- all survivors

-- what node n's recovery copy of item b adds to the tally
unfoldable pub side_weight : Bool → View → ℕ → ℕ → ℕ
side_weight forward w b n = cond (live w n) (number_weight (copy_number (copy_on forward (w.entry n b))) * step_of n) 0

-- how many recovery copies node n has
unfoldable pub held_on : Geometry → Bool → View → ℕ → ℕ
held_on g forward w n = count (λ b. has_on forward (w.entry n b)) g.items

-- what the census needs: room, and zeros
pub record Takable (g : Geometry) (t l s f u : List ℕ) : Type 0 where
  pub long : words_of g ≤ length t
  pub list_room : g.items ≤ length l
  pub tallies_room : g.items ≤ length s
  pub firsts_room : g.items ≤ length f
  pub used_room : g.nodes ≤ length u
  pub sized : g.items ≤ 256
  pub tallies_zero : (j : ℕ) → j < g.items → get_or s j 0 ≡ 0
  pub firsts_zero : (j : ℕ) → j < g.items → get_or f j 0 ≡ 0

-- what it tells of the survivors' view w, in the tallies s, one an item, the copies held u, one a node, and its answer
pub record Taken (g : Geometry) (forward : Bool) (w : View) (s u : List ℕ) (r : Census) : Type 0 where
  pub formed : r.formed ≡ survivors_formed g w
  pub fit : r.fit ≡ every (item_fits g forward w) g.items
  pub plain : r.plain ≡ every (λ j. plain (get_or s j 0)) g.items
  pub tally : (j : ℕ) → j < g.items → get_or s j 0 ≡ sum (side_weight forward w j) g.nodes
  pub tallies_room : g.items ≤ length s
  pub held : (n : ℕ) → n < g.nodes → live w n ≡ true → get_or u n 0 ≡ held_on g forward w n
  pub used_room : g.nodes ≤ length u

pub record TakenIn (g : Geometry) (forward : Bool) (w : View) (l l' s u : List ℕ) (r : Census) : Type 0 where
  pub taken : Taken g forward w s u r
  pub size : length l' ≡ length l

-- ---- as the code goes over the nodes

-- the recovery copies of the survivors below n: tallies, first values, and the copies of each node
pub record CensusTo (g : Geometry) (forward : Bool) (w : View) (n : ℕ) (s f u : List ℕ) : Type 0 where
  pub noted : Noted g forward w n f s
  pub tally : (j : ℕ) → j < g.items → get_or s j 0 ≡ sum (side_weight forward w j) n
  pub held : (k : ℕ) → k < n → live w k ≡ true → get_or u k 0 ≡ held_on g forward w k
  pub used_room : g.nodes ≤ length u

pub record NodeReady (g : Geometry) (forward : Bool) (w : View) (n : ℕ) (t l s f u : List ℕ) : Type 0 where
  pub there : n < g.nodes
  pub long : words_of g ≤ length t
  pub list_room : g.items ≤ length l
  pub sized : g.items ≤ 256
  pub before : CensusTo g forward w n s f u

pub record NodeNoted (g : Geometry) (forward : Bool) (w : View) (n : ℕ) (l l' s' f' u' : List ℕ) (r : Found) : Type 0 where
  pub after : CensusTo g forward w (n + 1) s' f' u'
  pub formed : r.formed ≡ (mark_form (w.mark n) && node_sound g w n)
  pub agree : {equal : Bool} → equal ≡ equal_to g forward w n → (equal && r.agree) ≡ equal_to g forward w (n + 1)
  pub size : length l' ≡ length l

pub record NodesNoted (g : Geometry) (forward : Bool) (w : View) (l l' s' u' : List ℕ) (r : Found) : Type 0 where
  pub formed : r.formed ≡ survivors_formed g w
  pub agree : r.agree ≡ equal_to g forward w g.nodes
  pub seen : (j : ℕ) → j < g.items → not (eqb (get_or s' j 0) 0) ≡ (copies_to forward w j g.nodes).seen
  pub tally : (j : ℕ) → j < g.items → get_or s' j 0 ≡ sum (side_weight forward w j) g.nodes
  pub tallies_room : g.items ≤ length s'
  pub held : (n : ℕ) → n < g.nodes → live w n ≡ true → get_or u' n 0 ≡ held_on g forward w n
  pub used_room : g.nodes ≤ length u'
  pub size : length l' ≡ length l

pub record KindsTold (items : ℕ) (s : List ℕ) (r : Kinds) : Type 0 where
  pub seen : r.seen ≡ every (λ j. not (eqb (get_or s j 0) 0)) items
  pub plain : r.plain ≡ every (λ j. plain (get_or s j 0)) items
