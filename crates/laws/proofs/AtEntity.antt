-- A step at an entity: what its table says is the term of what the list says.
use Rattle.std.proofs.Common.{◌≡◌, ℕ, Bool, true, false, cond, eqb, List, [], ◌∷◌, is_some, Some, None, Option, sym, refl, ap, ◌∙◌, subst}
use Rattle.std.proofs.lemmas.Bool.{eq-eqb, cond-true}
use Rattle.model.specs.Options.{filter, mapped}
use Rattle.model.specs.Slots.{Uid}
use Rattle.model.specs.Values as value
use Rattle.model.specs.Values.{Value, Values}
use Rattle.model.specs.Types as type
use Rattle.model.specs.Types.{Ty}
use Rattle.model.specs.Terms.{TermTy, flat, set, string, Term, term, set_of}
use Rattle.model.specs.Symbolize.{term_type, field, each, symbolize, default_literal}
use Rattle.model.specs.Entities.{Entity}
use Rattle.model.specs.Schemas.{Schema, Body, standard, enum, ActionRow, among, type_row, action_row, is_action_type, action_types, ancestor_types, attributes_in, tags_in, least_member}
use Rattle.model.specs.Environments.{Function, defined, action_ancestors, action_data, entity_type, uid_term, uid_terms, uids_of_type, empty_set, stored, stored_as, attributes_term, ancestors_term, tag_keys_term, tag_in, standard_tables, data_by}
use Rattle.model.specs.Conforms.{tags_place, entity_breaks_in}
use Rattle.model.specs.Builds.{when}
use Rattle.model.specs.Walks.{attribute, tag, ancestors, Step, record_field, and_then, ancestor_tables_in, or_default, look_up, field_in, has_key, at_entity, default_values, record_value, attributes_or_default, uid_values, ancestors_stored, ancestors_declared, ancestors_by_row, tags_stored, entity_step, entity_value}
use Rattle.laws.specs.WalkLaws.{Apart, NamesApart}
use Rattle.laws.proofs.Searches.{none_not, when_found}
use Rattle.laws.proofs.SymbolizedFields.{Fitting, Agrees, field_agrees}
use Rattle.laws.proofs.Defaults.{default_is, default_fits}
use Rattle.laws.proofs.Conforming.{fitting, element_unbroken, parts_unbroken}
use Rattle.laws.proofs.TagKeys.{key_held}

-- an attribute of a record that fits
record_agrees : (n : ℕ) (t : Ty) (vs : Values) (b : TermTy) → Fitting t (value.rec vs) → record_field n (term_type t) ≡ Some b → Agrees (record_value n t vs) (field_in n (symbolize t (value.rec vs))) b
record_agrees n (type.flat x) vs b f h = none_not h
record_agrees n (type.set t) vs b f h = none_not h
record_agrees n (type.rec is_open ts) vs b f h = field_agrees n ts vs b (cc) h

-- an attribute of a stored entity, or of the default
attribute_agrees : (s : Schema) (t : Ty) (o : Option Entity) (n : ℕ) (b : TermTy) → Apart t → ((e : Entity) → o ≡ Some e → Fitting t (value.rec e.attributes)) → record_field n (term_type t) ≡ Some b →
    Agrees (record_value n t (attributes_or_default s t o)) (field_in n (or_default (mapped (attributes_term t) o) (default_literal (least_member s) (term_type t)))) b
attribute_agrees s (type.flat x) o n b d f h = none_not h
attribute_agrees s (type.set t) o n b d f h = none_not h
attribute_agrees s (type.rec is_open ts) None n b d f h =
    let vs = default_values (least_member s) ts in
    subst (λ u. Agrees (record_value n (type.rec is_open ts) vs) (field_in n u) b) (default_is (least_member s) (type.rec is_open ts) d)
    (record_agrees n (type.rec is_open ts) vs b (default_fits (least_member s) (type.rec is_open ts) d) h)
attribute_agrees s (type.rec is_open ts) (Some e) n b d f h = record_agrees n (type.rec is_open ts) e.attributes b (f e refl) h

-- a tag of a stored entity; one that is not stored has none
tag_agrees : (t : Ty) (o : Option Entity) (n : ℕ) (d : Term) → ((e : Entity) (v : Value) → o ≡ Some e → field n e.tags ≡ Some v → Fitting t v) →
    Agrees (mapped (λ v. (t, v)) (field n (tags_stored o))) (when (has_key n (or_default (mapped tag_keys_term o) (empty_set (flat string)))) (or_default (tag_in t n o) d)) (term_type t)
tag_agrees t None n d f = refl
tag_agrees t (Some e) n d f =
    subst (λ c. Agrees (mapped (λ v. (t, v)) (field n e.tags)) (when c (or_default (mapped (symbolize t) (field n e.tags)) d)) (term_type t)) (sym (key_held n e.tags))
    (go (field n e.tags) (λ v k. f e v refl k))
  where
    go : (x : Option Value) → ((v : Value) → x ≡ Some v → Fitting t v) → Agrees (mapped (λ v. (t, v)) x) (when (is_some x) (or_default (mapped (symbolize t) x) d)) (term_type t)
    go None g = refl
    go (Some v) g = (refl, (refl, g v refl))

-- uids as terms, and as values
uid_terms_are : (m : ℕ) (us : List Uid) → uid_terms us ≡ each (λ u. symbolize (type.flat (type.entity m)) u) (uid_values us)
uid_terms_are m [] = refl
uid_terms_are m (u ∷ us) = ap (term 0 (uid_term u)) (uid_terms_are m us)

-- the ancestors of one type are found, where a table has them as terms
ancestors_agree : (m : ℕ) (us : List Uid) (o : Option Term) (b : TermTy) → set (entity_type m) ≡ b → o ≡ Some (uids_of_type m us) →
    Agrees (Some (type.set (type.flat (type.entity m)), value.set (uid_values (filter (λ a. eqb a.0 m) us)))) o b
ancestors_agree m us o b h e = (e ∙ ap (λ ts. Some (set_of (entity_type m) ts)) (uid_terms_are m (filter (λ a. eqb a.0 m) us)), (h, refl))

-- those of a stored entity, and those of a declared action
stored_ancestors : (m : ℕ) (o : Option Entity) → or_default (mapped (ancestors_term m) o) (empty_set (entity_type m)) ≡ uids_of_type m (ancestors_stored o)
stored_ancestors m None = refl
stored_ancestors m (Some e) = refl

declared_ancestors : (m : ℕ) (o : Option (ActionRow Ty)) → or_default (mapped (λ r. uids_of_type m r.ancestors) o) (empty_set (entity_type m)) ≡ uids_of_type m (ancestors_declared o)
declared_ancestors m None = refl
declared_ancestors m (Some r) = refl

-- a table of a type has what is stored under a uid of that type
own_key : {X : Type 0} (n : ℕ) (o : Option X) → cond (eqb n n) o None ≡ o
own_key n o = cond-true (eqb n n) o None (eq-eqb n n refl)

-- a step to an attribute; this and the next steps go by the row of the entity's type
attribute_step : (s : Schema) (es : List Entity) (u : Uid) (row : Option (Body Ty)) (n : ℕ) (b : TermTy) →
    ((t : Ty) → attributes_in row ≡ Some t → Apart t) → ((e : Entity) → stored es u ≡ Some e → entity_breaks_in s e row ≡ None) →
    and_then (attributes_in row) (λ t. record_field n (term_type t)) ≡ Some b →
    Agrees (and_then (attributes_in row) (λ t. record_value n t (attributes_or_default s t (stored es u)))) (and_then (data_by (standard_tables s es) s u.0 row) (at_entity (attribute n) u)) b
attribute_step s es u None n b d k h = none_not h
attribute_step s es u (Some (enum ms)) n b d k h = none_not h
attribute_step s es u (Some (standard ds t tags)) n b d k h =
    subst (λ o. Agrees (record_value n t (attributes_or_default s t (stored es u))) (field_in n (or_default (mapped (attributes_term t) o) (default_literal (least_member s) (term_type t)))) b)
    (sym (own_key u.0 (stored es u)))
    (attribute_agrees s t (stored es u) n b (d t refl) (λ e i. fitting s t (value.rec e.attributes) (d t refl) (parts_unbroken s e t tags (k e i)).0) h)

-- a step to a tag
tag_step : (s : Schema) (es : List Entity) (u : Uid) (row : Option (Body Ty)) (n : ℕ) (b : TermTy) →
    ((t : Ty) → tags_in row ≡ Some t → Apart t) → ((e : Entity) → stored es u ≡ Some e → entity_breaks_in s e row ≡ None) →
    mapped term_type (tags_in row) ≡ Some b →
    Agrees (and_then (tags_in row) (λ t. mapped (λ v. (t, v)) (field n (tags_stored (stored es u))))) (and_then (data_by (standard_tables s es) s u.0 row) (at_entity (tag n) u)) b
tag_step s es u None n b d k h = none_not h
tag_step s es u (Some (enum ms)) n b d k h = none_not h
tag_step s es u (Some (standard ds attrs None)) n b d k h = none_not h
tag_step s es u (Some (standard ds attrs (Some t))) n b d k h =
    let default = default_literal (least_member s) (term_type t) in
    let b_is : term_type t ≡ b = cc in
    subst (λ o. Agrees (mapped (λ v. (t, v)) (field n (tags_stored (stored es u)))) (when (has_key n (or_default (mapped tag_keys_term o) (empty_set (flat string)))) (or_default (tag_in t n o) default)) b)
    (sym (own_key u.0 (stored es u)))
    (subst (λ a. Agrees (mapped (λ v. (t, v)) (field n (tags_stored (stored es u)))) (when (has_key n (or_default (mapped tag_keys_term (stored es u)) (empty_set (flat string)))) (or_default (tag_in t n (stored es u)) default)) a) b_is
    (tag_agrees t (stored es u) n default (λ e v i f. fitting s t v (d t refl) (element_unbroken s e.tags t (tags_place e) n v (parts_unbroken s e attrs (Some t) (k e i)).1 f))))

-- a table that is there is asked
asked : (c : Bool) (f : Function Uid) (u : Uid) → c ≡ true → mapped (λ g. look_up g u) (cond c (Some f) None) ≡ Some (look_up f u)
asked c f u e = ap (λ x. mapped (λ g. look_up g u) (cond x (Some f) None)) e

-- a step to the ancestors of one type: the row None is that of an action type
ancestors_step : (s : Schema) (es : List Entity) (u : Uid) (row : Option (Body Ty)) (m : ℕ) (b : TermTy) →
    when (among m (ancestor_tables_in s u.0 row)) (set (entity_type m)) ≡ Some b →
    Agrees (Some (type.set (type.flat (type.entity m)), value.set (uid_values (filter (λ a. eqb a.0 m) (ancestors_by_row s es u row))))) (and_then (data_by (standard_tables s es) s u.0 row) (at_entity (ancestors m) u)) b
ancestors_step s es u None m b h = go (is_action_type s u.0) h
  where
    go : (c : Bool) → when (among m (cond c (action_types s) [])) (set (entity_type m)) ≡ Some b →
        Agrees (Some (type.set (type.flat (type.entity m)), value.set (uid_values (filter (λ a. eqb a.0 m) (ancestors_declared (action_row s u)))))) (and_then (cond c (Some (action_data s u.0)) None) (at_entity (ancestors m) u)) b
    go true h =
        let both = when_found (among m (action_types s)) (set (entity_type m)) b h in
        ancestors_agree m (ancestors_declared (action_row s u)) _ b both.1
        (asked (is_action_type s m) (defined (set (entity_type m)) (action_ancestors s u.0 m) (empty_set (entity_type m))) u both.0
        ∙ (ap (λ o. Some (or_default o (empty_set (entity_type m)))) (own_key u.0 (mapped (λ r. uids_of_type m r.ancestors) (action_row s u)))
        ∙ ap Some (declared_ancestors m (action_row s u))))
    go false h = none_not h
ancestors_step s es u (Some (enum ms)) m b h = none_not h
ancestors_step s es u (Some (standard ds t tags)) m b h =
    let both = when_found (among m (ancestor_types s u.0)) (set (entity_type m)) b h in
    ancestors_agree m (ancestors_stored (stored es u)) _ b both.1
    (asked (among m (ancestor_types s u.0)) (defined (set (entity_type m)) (λ v. mapped (ancestors_term m) (stored_as u.0 es v)) (empty_set (entity_type m))) u both.0
    ∙ (ap (λ o. Some (or_default (mapped (ancestors_term m) o) (empty_set (entity_type m)))) (own_key u.0 (stored es u))
    ∙ ap Some (stored_ancestors m (stored es u))))

-- a step that goes with the type of the entity
pub entity_agrees : (s : Schema) (es : List Entity) (u : Uid) (st : Step) (b : TermTy) → NamesApart s →
    ((e : Entity) → stored es u ≡ Some e → entity_breaks_in s e (type_row s u.0) ≡ None) → entity_step s st u.0 ≡ Some b →
    Agrees (entity_value s es st u) (and_then (data_by (standard_tables s es) s u.0 (type_row s u.0)) (at_entity st u)) b
entity_agrees s es u (attribute n) b d k h = attribute_step s es u (type_row s u.0) n b (d.attributes u.0) k h
entity_agrees s es u (tag n) b d k h = tag_step s es u (type_row s u.0) n b (d.tags u.0) k h
entity_agrees s es u (ancestors m) b d k h = ancestors_step s es u (type_row s u.0) m b h
