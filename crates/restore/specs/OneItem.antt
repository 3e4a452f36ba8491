-- What is said of one item of a table: where it is restored, and the value that it has.
use Rattle.std.specs.Prelude.{ℕ, ◌≡◌, ◌≢◌, true}
use Rattle.table.specs.Words.{invalid, shared_ck1, shared_ck2}
use Rattle.table.specs.View.{View, live, current, kept}

-- "each item is then Shared-CK1 on one live node and Shared-CK2 on another, both with its saved value, and live nodes' other places are Invalid"
pub record OnTwoNodes (v : View) (b x : ℕ) : Type 0 where
  pub first : ℕ
  pub second : ℕ
  pub distinct : first ≢ second
  pub first_live : live v first ≡ true
  pub second_live : live v second ≡ true
  pub first_state : current (v.entry first b) ≡ shared_ck1
  pub second_state : current (v.entry second b) ≡ shared_ck2
  pub first_value : (v.entry first b).value ≡ x
  pub second_value : (v.entry second b).value ≡ x
  pub no_third : (n : ℕ) → live v n ≡ true → n ≢ first → n ≢ second → current (v.entry n b) ≡ invalid
  pub none_kept : (n : ℕ) → live v n ≡ true → kept (v.entry n b) ≡ invalid

-- "every live node's current copy of the item has that value"; and there is such a copy
pub record HasValue (v : View) (b x : ℕ) : Type 0 where
  pub node : ℕ
  pub node_live : live v node ≡ true
  pub node_copy : current (v.entry node b) ≢ invalid
  pub all : (n : ℕ) → live v n ≡ true → current (v.entry n b) ≢ invalid → (v.entry n b).value ≡ x
