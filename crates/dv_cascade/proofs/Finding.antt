-- What is found behind what was found before.
use Rattle.std.proofs.Common.{◌≡◌, refl, sym, ap, subst, ◌∙◌, ◌⊎◌, inl, inr, Bool, true, false, cond, List, [], ◌∷◌, ◌++◌, append_assoc, append-nil}
use Rattle.std.proofs.lemmas.Bool.{true≢false}
use Rattle.std.specs.Prelude.{IsTrue}
use Rattle.dv_schema.specs.declared.relationship.Cascade.{Cascade}
use Rattle.dv_store.specs.declared.keys.RowKey.{RowKey}
use Rattle.dv_store.specs.World.{World, Rows, is_there}
use Rattle.dv_cascade.specs.Links.{allows}
use Rattle.dv_cascade.specs.Chains.{is_among}
use Rattle.dv_cascade.specs.Found.{with_row, Finds, IsAllowed}
use Rattle.dv_cascade.proofs.Among.{among-longer, among-last, among-push}
use Rattle.dv_cascade.proofs.Left.{are_of-push}

module _ (rows : Rows) where
  -- nothing is found
  pub nothing : (P : RowKey → Type 0) (found : List RowKey) → ((key : RowKey) → P key → ⊥) → Finds rows P found found
  nothing P found never = record { later = []; longer = sym (append-nil found); found = λ key p. absurd (never key p); only = λ key h. inl h; are_of = λ are. are }

  -- the same said otherwise
  pub said : (P Q : RowKey → Type 0) (a b : List RowKey) → ((key : RowKey) → P key → Q key) → ((key : RowKey) → Q key → P key) → Finds rows P a b → Finds rows Q a b
  said P Q a b to from f = record { later = f.later; longer = f.longer; found = λ key q. f.found key (from key q); only = λ key h. of key (f.only key h); are_of = f.are_of }
    where
      of : (key : RowKey) → IsTrue (is_among a key) ⊎ P key → IsTrue (is_among a key) ⊎ Q key
      of key (inl old) = inl old
      of key (inr p) = inr (to key p)

  -- one after the other
  pub both : (P Q : RowKey → Type 0) (a b c : List RowKey) → Finds rows P a b → Finds rows Q b c → Finds rows (λ key. P key ⊎ Q key) a c
  both P Q a b c f s = record {
    later = f.later ++ s.later;
    longer = s.longer ∙ ap (λ front. front ++ s.later) f.longer ∙ append_assoc a f.later s.later;
    found = found;
    only = λ key h. last key (s.only key h);
    are_of = λ are. s.are_of (f.are_of are);
  }
    where
      found : (key : RowKey) → P key ⊎ Q key → IsTrue (is_among c key)
      found key (inl p) = among-longer b s.later c key s.longer (f.found key p)
      found key (inr q) = s.found key q

      first : (key : RowKey) → IsTrue (is_among a key) ⊎ P key → IsTrue (is_among a key) ⊎ (P key ⊎ Q key)
      first key (inl old) = inl old
      first key (inr p) = inr (inl p)

      last : (key : RowKey) → IsTrue (is_among b key) ⊎ Q key → IsTrue (is_among a key) ⊎ (P key ⊎ Q key)
      last key (inl there) = first key (f.only key there)
      last key (inr q) = inr (inr q)

  -- one row
  pub one : (old new : List RowKey) (row : RowKey) → is_there rows row ≡ true → new ≡ with_row old row → Finds rows (λ key. key ≡ row) old new
  one old new row there e = of (is_among old row) refl e
    where
      of : (b : Bool) → is_among old row ≡ b → new ≡ cond b old (old ++ row ∷ []) → Finds rows (λ key. key ≡ row) old new
      of true is e = subst (λ n. Finds rows (λ key. key ≡ row) old n) (sym e) (record {
        later = [];
        longer = sym (append-nil old);
        found = λ key k. ap (is_among old) k ∙ is;
        only = λ key h. inl h;
        are_of = λ are. are;
      })
      of false is e = subst (λ n. Finds rows (λ key. key ≡ row) old n) (sym e) (record {
        later = row ∷ [];
        longer = refl;
        found = λ key k. ap (is_among (old ++ row ∷ [])) k ∙ among-last old row;
        only = λ key h. among-push old row key h;
        are_of = λ are. are_of-push rows old row is there are;
      })

-- a child, where a cascade reaches it
pub allowed : (w : World) (cascade : Cascade) (parent child : RowKey) (old new : List RowKey) → is_there w.rows child ≡ true → allows w cascade parent child ≡ true → new ≡ with_row old child
    → Finds w.rows (IsAllowed w cascade parent child) old new
allowed w cascade parent child old new there is e = said w.rows (λ key. key ≡ child) (IsAllowed w cascade parent child) old new (λ key k. record { is = k; allowed = is }) (λ key h. h.is) (one w.rows old new child there e)

pub not_allowed : (w : World) (cascade : Cascade) (parent child : RowKey) (found : List RowKey) → allows w cascade parent child ≡ false → Finds w.rows (IsAllowed w cascade parent child) found found
not_allowed w cascade parent child found is = nothing w.rows (IsAllowed w cascade parent child) found (λ key h. true≢false (sym h.allowed ∙ is))
