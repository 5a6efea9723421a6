-- A walk from a row up to its parents comes to each row above it, and ends where no row is above itself.
use Rattle.std.proofs.Common.{◌≡◌, refl, sym, ap, subst, ◌∙◌, ℕ, zero, suc, ◌+◌, ◌<◌, ◌≤◌, ◌⊎◌, inl, inr, Bool, true, false, cond, ◌&&◌, List, [], ◌∷◌, ◌++◌, length, length-append, is_some, arith}
use Rattle.std.proofs.lemmas.Bool.{true≢false, eqb-true, eq-eqb}
use Rattle.std.specs.Prelude.{IsTrue, ◌==◌, Option, None, Some, find, option_map, slice_get}
use Rattle.std.specs.Option.{option_map_or}
use Rattle.std.specs.FinMap as map
use Rattle.dv_value.specs.declared.id.Id.{Id}
use Rattle.dv_schema.specs.declared.definition.Definition.{Definition}
use Rattle.dv_schema.specs.declared.relationship.Relationship.{Relationship}
use Rattle.dv_schema.specs.Definitions.{relationships_of}
use Rattle.dv_store.specs.declared.keys.RowKey.{RowKey}
use Rattle.dv_store.specs.Keys.{row_key}
use Rattle.dv_store.specs.Shapes.{place_of}
use Rattle.dv_store.specs.World.{World, named_in, is_id}
use Rattle.dv_cascade.specs.Chains.{is_among, Chain, Reaches}
use Rattle.dv_schema.specs.Sound.{is_parental}
use Rattle.dv_cascade.specs.Circles.{is_parental_of, named_by, parent_of, HasNoCircle, HasOneParent, IsUnderParent}
use Rattle.dv_cascade.specs.Found.{AreOf}
use Rattle.dv_cascade.proofs.Among.{among-push}
use Rattle.dv_cascade.proofs.Left.{are_of-push, are_of_within}
use Rattle.dv_cascade.proofs.Leading.{named_there}
use Rattle.dv_cascade.proofs.Closures.{reaches_itself}

module _ (Link : RowKey → RowKey → Type 0) where
  -- a chain's first link, and the others
  first_link : (first last : RowKey) (links : ℕ) → Chain Link (suc links) first last → (next : RowKey) × (Link first next × Chain Link links next last)
  unfolding Chain
  first_link first last zero chain = (last, (subst (λ k. Link k last) chain.1.0 chain.1.1, refl))
  first_link first last (suc links) chain = let rest = first_link first chain.0 links chain.1.0 in (rest.0, (rest.1.0, (chain.0, (rest.1.1, chain.1.1))))

  joined : (first next last : RowKey) (links : ℕ) → Link first next → Chain Link links next last → Chain Link (suc links) first last
  unfolding Chain
  joined first next last zero link chain = (first, (refl, subst (λ k. Link first k) (sym chain) link))
  joined first next last (suc links) link chain = (chain.0, (joined first next chain.0 links link chain.1.0, chain.1.1))

-- the first item that passes a test
found_at : (test : Relationship → Bool) (rs : List Relationship) (r : Relationship) → find test rs ≡ Some r → (i : ℕ) × ((slice_get rs i ≡ Some r) × (test r ≡ true))
found_at test [] r is = absurd (true≢false (sym (ap is_some is)))
found_at test (x ∷ rs) r is = of (test x) refl is (found_at test rs r)
  where
    same : (a b : Relationship) → Some a ≡ Some b → a ≡ b
    same a b e = cc

    of : (b : Bool) → test x ≡ b → cond b (Some x) (find test rs) ≡ Some r → (find test rs ≡ Some r → (i : ℕ) × ((slice_get rs i ≡ Some r) × (test r ≡ true))) → (i : ℕ) × ((slice_get (x ∷ rs) i ≡ Some r) × (test r ≡ true))
    of true e is later = (0, (is, ap test (sym (same x r is)) ∙ e))
    of false e is later = let rest = later is in (suc rest.0, rest.1)

finds_some : (test : Relationship → Bool) (rs : List Relationship) (i : ℕ) (r : Relationship) → slice_get rs i ≡ Some r → test r ≡ true → (s : Relationship) × (find test rs ≡ Some s)
finds_some test [] i r is passes = absurd (true≢false (sym (ap is_some is)))
finds_some test (x ∷ rs) zero r is passes = (x, ap (λ b. cond b (Some x) (find test rs)) (ap test (same x r is) ∙ passes))
  where
    same : (a b : Relationship) → Some a ≡ Some b → a ≡ b
    same a b e = cc
finds_some test (x ∷ rs) (suc i) r is passes = of (test x) refl (finds_some test rs i r is passes)
  where
    of : (b : Bool) → test x ≡ b → (s : Relationship) × (find test rs ≡ Some s) → (s : Relationship) × (find test (x ∷ rs) ≡ Some s)
    of true e rest = (x, ap (λ b. cond b (Some x) (find test rs)) e)
    of false e rest = (rest.0, ap (λ b. cond b (Some x) (find test rs)) e ∙ rest.1)

and-both : (a b : Bool) → (a && b) ≡ true → (a ≡ true) × (b ≡ true)
and-both true b e = (refl, e)
and-both false b e = absurd (true≢false (sym e))

id_named : (id : Id) (named : Option Id) → is_id id named ≡ true → named ≡ Some id
id_named id None e = absurd (true≢false (sym e))
id_named id (Some other) e = let p = eqb-true id.0 other.0 e in λ j. Some (record { 0 = sym p j })

names_it : (id : Id) (named : Option Id) → named ≡ Some id → is_id id named ≡ true
names_it id named e = ap (is_id id) e ∙ eq-eqb id.0 id.0 refl

module _ (w : World) (d : Definition) where
  -- a row's parent is the row that it is under
  pub parent_is : (child parent : RowKey) → parent_of w d child ≡ Some parent → IsUnderParent w d child parent
  unfolding parent_of
  parent_is child parent is = of (find (is_parental_of child.table) (relationships_of d)) refl is
    where
      same : (a b : RowKey) → Some a ≡ Some b → a ≡ b
      same a b e = cc

      by : (r : Relationship) → find (is_parental_of child.table) (relationships_of d) ≡ Some r → (named : Option Id) → named_in (map.get w.rows child) (place_of r.column) ≡ named → option_map (row_key r.parent) named ≡ Some parent → IsUnderParent w d child parent
      by r found None named e = absurd (true≢false (sym (ap is_some e)))
      by r found (Some id) named e =
          let at = found_at (is_parental_of child.table) (relationships_of d) r found in
          let passes = and-both (is_parental r) (r.child == child.table) at.1.1 in
          let key : row_key r.parent id ≡ parent = same (row_key r.parent id) parent e in
          record {
            number = at.0;
            relationship = r;
            there = at.1.0;
            parental = passes.0;
            refers = record {
              child_table = sym (eqb-true r.child child.table passes.1);
              parent_table = ap (λ k. k.table) (sym key);
              named = names_it parent.id (named_in (map.get w.rows child) (place_of r.column)) (named ∙ ap (λ k. Some k.id) key);
            };
          }

      of : (r : Option Relationship) → find (is_parental_of child.table) (relationships_of d) ≡ r → named_by w child r ≡ Some parent → IsUnderParent w d child parent
      of None found e = absurd (true≢false (sym (ap is_some e)))
      of (Some r) found e = by r found (named_in (map.get w.rows child) (place_of r.column)) refl e

  pub parent_found : HasOneParent d → (child parent : RowKey) → IsUnderParent w d child parent → parent_of w d child ≡ Some parent
  unfolding parent_of
  parent_found one child parent h = of (finds_some (is_parental_of child.table) (relationships_of d) h.number h.relationship h.there passes)
    where
      passes : is_parental_of child.table h.relationship ≡ true
      passes = ap (λ b. b && (h.relationship.child == child.table)) h.parental ∙ eq-eqb h.relationship.child child.table (sym h.refers.child_table)

      of : (s : Relationship) × (find (is_parental_of child.table) (relationships_of d) ≡ Some s) → named_by w child (find (is_parental_of child.table) (relationships_of d)) ≡ Some parent
      of found =
          let at = found_at (is_parental_of child.table) (relationships_of d) found.0 found.1 in
          let is = and-both (is_parental found.0) (found.0.child == child.table) at.1.1 in
          let same : found.0 ≡ h.relationship = one at.0 h.number found.0 h.relationship at.1.0 h.there is.0 h.parental (eqb-true found.0.child child.table is.1 ∙ h.refers.child_table) in
          ap (named_by w child) (found.1 ∙ ap Some same)
          ∙ ap (option_map (row_key h.relationship.parent)) (id_named parent.id (named_in (map.get w.rows child) (place_of h.relationship.column)) h.refers.named)
          ∙ (λ j. Some (record { table = sym h.refers.parent_table j; id = parent.id }))

  -- the rows of a walk up from a row, so many at most: those that have a parent, the last one first
  pub path : ℕ → RowKey → List RowKey
  path zero key = []
  path (suc most) key = option_map_or (λ parent. path most parent ++ key ∷ []) (parent_of w d key) []

  path-next : (most : ℕ) (key parent : RowKey) → parent_of w d key ≡ Some parent → path (suc most) key ≡ path most parent ++ key ∷ []
  unfolding path
  path-next most key parent is = ap (λ o. option_map_or (λ p. path most p ++ key ∷ []) o []) is

  path-end : (most : ℕ) (key : RowKey) → parent_of w d key ≡ None → path (suc most) key ≡ []
  unfolding path
  path-end most key is = ap (λ o. option_map_or (λ p. path most p ++ key ∷ []) o []) is

  path-none : (key : RowKey) → path 0 key ≡ []
  unfolding path
  path-none key = refl

  above_path : (most : ℕ) (key other : RowKey) → IsTrue (is_among (path most key) other) → Reaches (IsUnderParent w d) key other
  unfolding path
  above_path zero key other h = absurd (true≢false (sym h))
  above_path (suc most) key other h = of (parent_of w d key) refl h (λ parent. above_path most parent other)
    where
      on : (parent : RowKey) → IsUnderParent w d key parent → Reaches (IsUnderParent w d) parent other → Reaches (IsUnderParent w d) key other
      on parent link r = record { links = suc r.links; chain = joined (IsUnderParent w d) key parent other r.links link r.chain }

      last : (parent : RowKey) → IsUnderParent w d key parent → (IsTrue (is_among (path most parent) other) → Reaches (IsUnderParent w d) parent other) → IsTrue (is_among (path most parent) other) ⊎ (other ≡ key) → Reaches (IsUnderParent w d) key other
      last parent link later (inl there) = on parent link (later there)
      last parent link later (inr is) = subst (λ k. Reaches (IsUnderParent w d) key k) (sym is) (reaches_itself (IsUnderParent w d) key)

      of : (o : Option RowKey) → parent_of w d key ≡ o → IsTrue (is_among (option_map_or (λ parent. path most parent ++ key ∷ []) o []) other)
          → ((parent : RowKey) → IsTrue (is_among (path most parent) other) → Reaches (IsUnderParent w d) parent other) → Reaches (IsUnderParent w d) key other
      of None is h later = absurd (true≢false (sym h))
      of (Some parent) is h later = last parent (parent_is key parent is) (later parent) (among-push (path most parent) key other h)

  -- no row comes twice, and each is there
  path-are_of : HasNoCircle w d → (most : ℕ) (key : RowKey) → AreOf w.rows (path most key)
  path-are_of circle zero key = subst (λ rows. AreOf w.rows rows) (sym (path-none key)) (sum (map.len w.rows))
    where
      sum : (n : ℕ) → n + 0 ≡ n
      sum n = omega arith
  path-are_of circle (suc most) key = of (parent_of w d key) refl (λ parent. path-are_of circle most parent)
    where
      sum : (n : ℕ) → n + 0 ≡ n
      sum n = omega arith

      new : (parent : RowKey) → parent_of w d key ≡ Some parent → (b : Bool) → is_among (path most parent) key ≡ b → b ≡ false
      new parent is false h = refl
      new parent is true h = let r = above_path most parent key h in absurd (circle key r.links (joined (IsUnderParent w d) key parent key r.links (parent_is key parent is) r.chain))

      of : (o : Option RowKey) → parent_of w d key ≡ o → ((parent : RowKey) → AreOf w.rows (path most parent)) → AreOf w.rows (path (suc most) key)
      of None is later = subst (λ rows. AreOf w.rows rows) (sym (path-end most key is)) (sum (map.len w.rows))
      of (Some parent) is later = subst (λ rows. AreOf w.rows rows) (sym (path-next most key parent is))
          (are_of-push w.rows (path most parent) key (new parent is (is_among (path most parent) key) refl)
          (let under = parent_is key parent is in named_there w key (place_of under.relationship.column) parent.id under.refers.named) (later parent))

  -- a walk that ended stays as it is
  path-longer : (most : ℕ) (key : RowKey) → length (path most key) < most → path (suc most) key ≡ path most key
  path-longer zero key l = absurd (omega (arith, l))
  path-longer (suc most) key l = of (parent_of w d key) refl (λ parent. path-longer most parent)
    where
      less : (parent : RowKey) → parent_of w d key ≡ Some parent → length (path most parent) < most
      less parent is = sums (length (path (suc most) key)) (length (path most parent)) l (ap length (path-next most key parent is) ∙ length-append (path most parent) (key ∷ []))
        where
          sums : (a b : ℕ) → a < suc most → a ≡ b + 1 → b < most
          sums a b l e = omega (arith, l, e)

      of : (o : Option RowKey) → parent_of w d key ≡ o → ((parent : RowKey) → length (path most parent) < most → path (suc most) parent ≡ path most parent) → path (suc (suc most)) key ≡ path (suc most) key
      of None is later = path-end (suc most) key is ∙ sym (path-end most key is)
      of (Some parent) is later = path-next (suc most) key parent is ∙ ap (λ rows. rows ++ key ∷ []) (later parent (less parent is)) ∙ sym (path-next most key parent is)

  -- how many rows a walk up from a row passes
  pub height : RowKey → ℕ
  height key = length (path (suc (map.len w.rows)) key)

  pub lower : HasNoCircle w d → (key parent : RowKey) → parent_of w d key ≡ Some parent → height parent < height key
  unfolding height
  lower circle key parent is = of (length (path (suc (map.len w.rows)) key)) (length (path (map.len w.rows) parent)) (length (path (suc (map.len w.rows)) parent)) (map.len w.rows)
      (ap length (path-next (map.len w.rows) key parent is) ∙ length-append (path (map.len w.rows) parent) (key ∷ []))
      (are_of_within w.rows (path (suc (map.len w.rows)) key) (path-are_of circle (suc (map.len w.rows)) key))
      (λ l. ap length (path-longer (map.len w.rows) parent l))
    where
      of : (a b c n : ℕ) → a ≡ b + 1 → a ≤ n → (b < n → c ≡ b) → c < a
      of a b c n e l same = let s : c ≡ b = same (omega (arith, e, l)) in omega (arith, s, e)

  -- what is above a row is above or at its parent, or is the row itself
  pub further : (key parent other : RowKey) → HasOneParent d → parent_of w d key ≡ Some parent → (key ≡ other → ⊥) → Reaches (IsUnderParent w d) key other → Reaches (IsUnderParent w d) parent other
  unfolding Chain
  further key parent other one is apart r = of r.links r.chain
    where
      same : (a b : RowKey) → Some a ≡ Some b → a ≡ b
      same a b e = cc

      of : (links : ℕ) → Chain (IsUnderParent w d) links key other → Reaches (IsUnderParent w d) parent other
      of zero chain = absurd (apart (sym chain))
      of (suc links) chain =
          let rest = first_link (IsUnderParent w d) key other links chain in
          let next : rest.0 ≡ parent = same rest.0 parent (sym (parent_found one key rest.0 rest.1.0) ∙ is) in
          subst (λ k. Reaches (IsUnderParent w d) k other) next (record { links = links; chain = rest.1.1 })

  pub nearer : (key parent other : RowKey) → parent_of w d key ≡ Some parent → Reaches (IsUnderParent w d) parent other → Reaches (IsUnderParent w d) key other
  nearer key parent other is r = record { links = suc r.links; chain = joined (IsUnderParent w d) key parent other r.links (parent_is key parent is) r.chain }

  pub topmost : (key other : RowKey) → HasOneParent d → parent_of w d key ≡ None → (key ≡ other → ⊥) → Reaches (IsUnderParent w d) key other → ⊥
  unfolding Chain
  topmost key other one is apart r = of r.links r.chain
    where
      of : (links : ℕ) → Chain (IsUnderParent w d) links key other → ⊥
      of zero chain = apart (sym chain)
      of (suc links) chain =
          let rest = first_link (IsUnderParent w d) key other links chain in
          true≢false (ap is_some (sym (parent_found one key rest.0 rest.1.0) ∙ is))
