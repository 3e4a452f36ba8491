-- The laws of `specs/Words.antt`.
use Prim.Native.Nat.{ℕ, ◌+◌, ◌*◌, ◌/◌, ◌%◌, ◌^◌, ◌<◌}
use mathlib.Core.Path.{◌≡◌, ◌∙◌}
use lib.Dec.{lit<}
use native.Mathlib.Nat.{mod-lt}
use native.Mathlib.Omega.{arith}
use Rattle.table.specs.Words.{state_word, current_of, kept_of, mark_word, live_of, phase_of, number_of, size_word, nodes_of, items_of, frames_of}

-- ---- state words

-- the places of a state word come back, and a word of good form is that of its places
module _ (c k : ℕ) (hc : c < 16) (hk : k < 4) where
  pub current_state : current_of (state_word c k) ≡ c
  current_state = omega arith

  pub kept_state : kept_of (state_word c k) ≡ k
  kept_state = omega arith

pub state_parts : (w : ℕ) → w % 2 ^ 58 ≡ 0 → current_of w < 16 → w ≡ state_word (current_of w) (kept_of w)
state_parts w h k = omega arith

-- ---- marks

module _ (p n : ℕ) (hp : p < 4) (hn : n < 2 ^ 32) where
  pub phase_mark : phase_of (mark_word p n) ≡ p
  phase_mark = omega arith

  pub number_mark : number_of (mark_word p n) ≡ n
  number_mark = omega arith

pub mark_parts : (w : ℕ) → w % 2 ^ 29 ≡ 0 → live_of w ≡ 1 → w ≡ mark_word (phase_of w) (number_of w)
mark_parts w r l =
    let p : w / 2 ^ 61 ≡ w / 2 ^ 63 * 4 + w / 2 ^ 61 % 4 = omega arith in
    let n : w / 2 ^ 29 ≡ w / 2 ^ 61 * 2 ^ 32 + w / 2 ^ 29 % 2 ^ 32 = omega arith in
    let whole : w ≡ 2 ^ 63 + phase_of w * 2 ^ 61 + number_of w * 2 ^ 29 = omega arith in
    whole ∙ fits (phase_of w) (number_of w) (mod-lt (w / 2 ^ 61) (lit< tt)) (mod-lt (w / 2 ^ 29) (lit< tt))
  where
    fits : (p n : ℕ) → p < 4 → n < 2 ^ 32 → 2 ^ 63 + p * 2 ^ 61 + n * 2 ^ 29 ≡ mark_word p n
    fits p n hp hn = omega arith

-- ---- word 0

module _ (n m f : ℕ) (hn : n < 2 ^ 5) (hm : m < 2 ^ 9) (hf : f < 2 ^ 10) where
  pub nodes_size : nodes_of (size_word n m f) ≡ n
  nodes_size = omega arith

  pub items_size : items_of (size_word n m f) ≡ m
  items_size = omega arith

  pub frames_size : frames_of (size_word n m f) ≡ f
  frames_size = omega arith

pub size_parts : (w : ℕ) → w / 2 ^ 60 ≡ 0 → w % 2 ^ 36 ≡ 0 → w ≡ size_word (nodes_of w) (items_of w) (frames_of w)
size_parts w a b =
    let n : w / 2 ^ 55 % 2 ^ 5 ≡ w / 2 ^ 55 = omega arith in
    let m : w / 2 ^ 46 ≡ w / 2 ^ 55 * 2 ^ 9 + w / 2 ^ 46 % 2 ^ 9 = omega arith in
    let f : w / 2 ^ 36 ≡ w / 2 ^ 46 * 2 ^ 10 + w / 2 ^ 36 % 2 ^ 10 = omega arith in
    let whole : w ≡ nodes_of w * 2 ^ 55 + items_of w * 2 ^ 46 + frames_of w * 2 ^ 36 = omega arith in
    whole ∙ fits (nodes_of w) (items_of w) (frames_of w) (mod-lt (w / 2 ^ 55) (lit< tt)) (mod-lt (w / 2 ^ 46) (lit< tt)) (mod-lt (w / 2 ^ 36) (lit< tt))
  where
    fits : (n m f : ℕ) → n < 2 ^ 5 → m < 2 ^ 9 → f < 2 ^ 10 → n * 2 ^ 55 + m * 2 ^ 46 + f * 2 ^ 36 ≡ size_word n m f
    fits n m f hn hm hf = omega arith
