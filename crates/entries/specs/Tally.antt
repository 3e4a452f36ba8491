-- What is counted of one item over the live nodes.
use Rattle.std.specs.Prelude.{Bool, not, ◌&&◌, ◌||◌, ℕ, ◌+◌, eqb}
use Rattle.table.specs.View.{View, live, current, kept}
use Rattle.counting.specs.Counting.{count}
use Rattle.counting.specs.Values.{Values, values_of}
use Rattle.table.specs.Words.{shared, owner, modified, shared_ck1, shared_ck2, precommit1, precommit2, inv_ck1, inv_ck2}

pub record Counts : Type 0 where
  pub current : ℕ → ℕ
  pub kept : ℕ → ℕ
  pub copies : ℕ
  pub values : Values
  pub keeps : Values

-- node n is live and has item b's current place, or kept place, at a code
abbrev pub has : View → ℕ → ℕ → ℕ → Bool
has v b code n = live v n && eqb (current (v.entry n b)) code

abbrev pub has_kept : View → ℕ → ℕ → ℕ → Bool
has_kept v b code n = live v n && eqb (kept (v.entry n b)) code

-- node n is live and has a current copy, or a kept copy
abbrev pub copy : View → ℕ → ℕ → Bool
copy v b n = live v n && not (eqb (current (v.entry n b)) 0)

abbrev pub kept_copy : View → ℕ → ℕ → Bool
kept_copy v b n = live v n && not (eqb (kept (v.entry n b)) 0)

-- item b over the live nodes below n: how many have each code, how many a current copy, and the values of the copies
abbrev pub counts_of : View → ℕ → ℕ → Counts
counts_of v b n = record {
  current = λ code. count (has v b code) n;
  kept = λ code. count (has_kept v b code) n;
  copies = count (copy v b) n;
  values = values_of n (copy v b) (λ n. (v.entry n b).value);
  keeps = values_of n (kept_copy v b) (λ n. (v.entry n b).kept_value);
}

-- ---- which counts make an item clean, dirty or created

-- "clean: one Shared-CK1, one Shared-CK2, other current places Shared or Invalid, all values equal, nothing kept"
abbrev pub is_clean : Counts → Bool
is_clean s =
    eqb (s.current shared_ck1) 1
    && (eqb (s.current shared_ck2) 1
    && (eqb s.copies (2 + s.current shared) && (s.values.equal && not s.keeps.seen)))

-- "one Modified and no other current copy, or one Owner with any number of Shared, none included"
abbrev pub is_owned : Counts → Bool
is_owned s =
    (eqb (s.current modified) 1 && eqb s.copies 1)
    || (eqb (s.current owner) 1 && eqb s.copies (1 + s.current shared))

-- "and one Inv-CK1, one Inv-CK2, values equal"
abbrev pub is_saved : Counts → Bool
is_saved s = eqb (s.kept inv_ck1) 1 && (eqb (s.kept inv_ck2) 1 && s.keeps.equal)

-- "dirty: one Modified .., or one Owner .., values equal; and one Inv-CK1, one Inv-CK2, values equal"
abbrev pub is_dirty : Counts → Bool
is_dirty s = is_owned s && (s.values.equal && is_saved s)

-- "created: as dirty with Precommit1 and Precommit2 in the Owner's stead, equal to each other and to any Shared"
abbrev pub is_created : Counts → Bool
is_created s =
    eqb (s.current precommit1) 1
    && (eqb (s.current precommit2) 1 && (eqb s.copies (2 + s.current shared) && (s.values.equal && is_saved s)))

-- "every item over the live nodes is one of: clean; dirty; created (phase 1 only)"
unfoldable pub item_test : ℕ → Counts → Bool
item_test phase s = is_clean s || (is_dirty s || (eqb phase 1 && is_created s))
