-- Rows are found until those found have all that links lead to.
use Rattle.std.proofs.Common.{◌≡◌, refl, sym, ap, subst, ◌∙◌, ℕ, zero, suc, ◌+◌, ◌-◌, ◌<◌, ◌≤◌, ◌⊎◌, inl, inr, Bool, true, false, cond, List, [], ◌∷◌, length, arith}
use Rattle.std.proofs.lemmas.Bool.{true≢false, ltb-true, ltb-false}
use Rattle.std.proofs.lemmas.Option.{slice_get_within}
use Rattle.std.specs.Prelude.{IsTrue, ◌↔◌, None, Some, nat_lt, slice_get}
use Rattle.dv_schema.specs.declared.definition.Definition.{Definition}
use Rattle.dv_store.specs.declared.keys.RowKey.{RowKey}
use Rattle.dv_store.specs.Keys.{row_cmp}
use Rattle.dv_store.specs.World.{World, Rows, is_there}
use Rattle.dv_cascade.specs.declared.cascading.Cascading.{Cascading}
use Rattle.dv_cascade.specs.Links.{Leads}
use Rattle.dv_cascade.specs.Chains.{is_among, AreExactly, Chain, IsReached, Reaches}
use Rattle.dv_cascade.specs.Found.{AreOf, Finds, IsUnder}
use Rattle.dv_cascade.proofs.Among.{among-longer, among-last, among-one, among-at, among-place, at-longer, at-past}

-- a chain goes on by a link
pub reaches_on : (Link : RowKey → RowKey → Type 0) (first next last : RowKey) → Reaches Link first next → Link next last → Reaches Link first last
unfolding Chain
reaches_on Link first next last r link = record { links = suc r.links; chain = (next, (r.chain, link)) }

pub reaches_itself : (Link : RowKey → RowKey → Type 0) (key : RowKey) → Reaches Link key key
unfolding Chain
reaches_itself Link key = record { links = 0; chain = refl }

-- what is kept while rows are found: those before a place have their children among those found
pub record Closes (rows : Rows) (Link : RowKey → RowKey → Type 0) (first : List RowKey) (next : ℕ) (found : List RowKey) : Type 0 where
  pub kept : (key : RowKey) → IsTrue (is_among first key) → IsTrue (is_among found key)
  pub only : (key : RowKey) → IsTrue (is_among found key) → IsUnder Link first key
  pub closed : (i : ℕ) (parent child : RowKey) → i < next → slice_get found i ≡ Some parent → Link parent child → IsTrue (is_among found child)
  pub are_of : AreOf rows found

module _ (rows : Rows) (Link : RowKey → RowKey → Type 0) (first : List RowKey) where
  pub closes_begin : AreOf rows first → Closes rows Link first 0 first
  closes_begin are = record {
    kept = λ key h. h;
    only = λ key h. record { start = key; among = h; reached = reaches_itself Link key };
    closed = λ i parent child l. absurd (never i l);
    are_of = are;
  }
    where
      never : (i : ℕ) → i < 0 → ⊥
      never i l = omega (arith, l)

  same_row : (a b : RowKey) → Some a ≡ Some b → a ≡ b
  same_row a b e = cc

  pub closes_more : (next after : ℕ) (parent : RowKey) (found new : List RowKey) → after ≡ next + 1 → slice_get found next ≡ Some parent → Closes rows Link first next found → Finds rows (Link parent) found new → Closes rows Link first after new
  closes_more next after parent found new is at c f = record { kept = λ key h. longer key (c.kept key h); only = λ key h. from key (f.only key h); closed = closed; are_of = f.are_of c.are_of }
    where
      longer : (key : RowKey) → IsTrue (is_among found key) → IsTrue (is_among new key)
      longer key h = among-longer found f.later new key f.longer h

      from : (key : RowKey) → IsTrue (is_among found key) ⊎ Link parent key → IsUnder Link first key
      from key (inl old) = c.only key old
      from key (inr link) =
          let under = c.only parent (among-at found next parent at) in
          record { start = under.start; among = under.among; reached = reaches_on Link under.start parent key under.reached link }

      before-or : (i : ℕ) → i < after → (i < next) ⊎ (i ≡ next)
      before-or i l = of (nat_lt i next) refl
        where
          of : (b : Bool) → nat_lt i next ≡ b → (i < next) ⊎ (i ≡ next)
          of true e = inl (ltb-true i next e)
          of false e = inr (omega (arith, l, is, ltb-false i next e))

      within : next < length found
      within = slice_get_within found next parent at

      closed : (i : ℕ) (p child : RowKey) → i < after → slice_get new i ≡ Some p → Link p child → IsTrue (is_among new child)
      closed i p child l there link = of (before-or i l)
        where
          of : (i < next) ⊎ (i ≡ next) → IsTrue (is_among new child)
          of (inl before) = longer child (c.closed i p child before (sym (at-longer found f.later new i f.longer (omega (arith, before, within))) ∙ there) link)
          of (inr e) =
              let p-is : p ≡ parent = same_row p parent (sym there ∙ at-longer found f.later new i f.longer (omega (arith, e, within)) ∙ ap (slice_get found) e ∙ at) in
              f.found child (subst (λ x. Link x child) p-is link)

  reached : (found : List RowKey) → ((key : RowKey) → IsTrue (is_among first key) → IsTrue (is_among found key)) → ((parent child : RowKey) → IsTrue (is_among found parent) → Link parent child → IsTrue (is_among found child))
      → (start last : RowKey) (links : ℕ) → Chain Link links start last → IsTrue (is_among first start) → IsTrue (is_among found last)
  unfolding Chain
  reached found kept all start last zero chain h = subst (λ k. IsTrue (is_among found k)) (sym chain) (kept start h)
  reached found kept all start last (suc links) chain h = all chain.0 last (reached found kept all start chain.0 links chain.1.0 h) chain.1.1

  pub closes_end : (next : ℕ) (found : List RowKey) → slice_get found next ≡ None → Closes rows Link first next found → (key : RowKey) → IsTrue (is_among found key) ↔ IsUnder Link first key
  closes_end next found past c key = (c.only key, λ h. reached found c.kept all h.start key h.reached.links h.reached.chain h.among)
    where
      all : (parent child : RowKey) → IsTrue (is_among found parent) → Link parent child → IsTrue (is_among found child)
      all parent child h link = let place = among-place found parent h in c.closed place.0 parent child (at-past found next place.0 parent past place.1) place.1 link

  pub closes_smaller : (next : ℕ) (parent : RowKey) (found : List RowKey) (n : ℕ) → slice_get found next ≡ Some parent → length found ≤ n → n - (next + 1) < n - next
  closes_smaller next parent found n at l = of (slice_get_within found next parent at)
    where
      of : next < length found → n - (next + 1) < n - next
      of h = omega (arith, h, l)

-- what is under a target that is there is what is reached from it
pub reached-is : (w : World) (d : Definition) (c : Cascading) (target : RowKey) (first found rows : List RowKey) → first ≡ cond (is_there w.rows target) (target ∷ []) []
    → ((key : RowKey) → IsTrue (is_among found key) ↔ IsUnder (Leads w d c) first key) → AreExactly row_cmp (λ key. IsTrue (is_among found key)) rows → AreExactly row_cmp (IsReached w d c target) rows
reached-is w d c target first found rows start under exact = record { ascending = exact.ascending; exactly = λ key. (λ h. to key ((under key).0 ((exact.exactly key).0 h)), λ h. (exact.exactly key).1 ((under key).1 (from key h))) }
  where
    to : (key : RowKey) → IsUnder (Leads w d c) first key → IsReached w d c target key
    to key h = of (is_there w.rows target) refl start
      where
        of : (b : Bool) → is_there w.rows target ≡ b → first ≡ cond b (target ∷ []) [] → IsReached w d c target key
        of true there e = record {
          there = there;
          reached = subst (λ k. Reaches (Leads w d c) k key) (among-one target h.start (subst (λ rows. IsTrue (is_among rows h.start)) e h.among)) h.reached;
        }
        of false there e = absurd (true≢false (sym (subst (λ rows. IsTrue (is_among rows h.start)) e h.among)))

    from : (key : RowKey) → IsReached w d c target key → IsUnder (Leads w d c) first key
    from key h = record { start = target; among = subst (λ rows. IsTrue (is_among rows target)) (sym (start ∙ ap (λ b. cond b (target ∷ []) []) h.there)) (among-last [] target); reached = h.reached }
