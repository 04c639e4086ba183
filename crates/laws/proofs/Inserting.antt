-- A set holds its elements in their order, and those that were put in.
use Rattle.std.proofs.Common.{◌≡◌, ◌⊎◌, Ordering, Less, Equal, Greater, sym, refl, ap, ◌∙◌, inl, inr, ⊎_elim}
use Rattle.std.specs.Ordering.{ordering_reverse}
use Rattle.model.specs.Terms.{Term, Terms, no_terms, term, order, insert_by, insert, inserted}
use Rattle.model.specs.Orders.{by_number}
use Rattle.model.specs.Environments.{by_uid, by_function_key, by_tag_key}
use Rattle.laws.proofs.KeyOrders.{names_lawful, uids_lawful, function_keys_lawful, tag_keys_lawful, uid_order}
use Rattle.laws.specs.OrderLaws.{Among, Above, Ascends, OrderLaws}
use Rattle.laws.proofs.Numbers.{total}
use Rattle.laws.proofs.TypeOrder.{types_total}
use Rattle.laws.proofs.TermOrder.{terms_lawful}

-- what is below t and the others stays below where t is inserted
above_insert : (u t : Term) (us : Terms) → Above u us → order u t ≡ Less → Above u (insert t us)
above_insert u t no_terms a less = less
above_insert u t (term m v vs) a less = go (order v t)
  where
    go : (o : Ordering) → Above u (insert_by o (term m v (insert t vs)) (term 0 t (term m v vs)) (term m v vs))
    go Less = a
    go Equal = a
    go Greater = less

-- ascending terms ascend with t among them, and with any more
insert_ascends : (t : Term) (us : Terms) → Ascends us → Ascends (insert t us)
insert_ascends t no_terms a = (tt, tt)
insert_ascends t (term m u us) a = go (order u t) refl (insert_ascends t us a.1)
  where
    go : (o : Ordering) → order u t ≡ o → Ascends (insert t us) → Ascends (insert_by o (term m u (insert t us)) (term 0 t (term m u us)) (term m u us))
    go Less e ih = (above_insert u t us a.0 e, ih)
    go Equal e ih = a
    go Greater e ih = (terms_lawful.turned u t ∙ ap ordering_reverse e, a)

inserted_ascends : (ts us : Terms) → Ascends us → Ascends (inserted ts us)
inserted_ascends no_terms us a = a
inserted_ascends (term m t ts) us a = inserted_ascends ts (insert t us) (insert_ascends t us a)

-- t is there where it is inserted, and so are the others
insert_holds : (s t : Term) (us : Terms) → (s ≡ t) ⊎ Among s us → Among s (insert t us)
insert_holds s t no_terms h = h
insert_holds s t (term m u us) h = go (order u t) refl (insert_holds s t us)
  where
    go : (o : Ordering) → order u t ≡ o → ((s ≡ t) ⊎ Among s us → Among s (insert t us)) → Among s (insert_by o (term m u (insert t us)) (term 0 t (term m u us)) (term m u us))
    go Less e ih = ⊎_elim (λ (x : s ≡ t). inr (ih (inl x))) (λ (y : (s ≡ u) ⊎ Among s us). ⊎_elim (λ (z : s ≡ u). inl z) (λ (z : Among s us). inr (ih (inr z))) y) h
    go Equal e ih = ⊎_elim (λ (x : s ≡ t). inl (x ∙ sym (terms_lawful.same u t e))) (λ (y : (s ≡ u) ⊎ Among s us). y) h
    go Greater e ih = h

inserted_holds : (s : Term) (ts us : Terms) → Among s ts ⊎ Among s us → Among s (inserted ts us)
inserted_holds s no_terms us h = ⊎_elim (λ (x : ⊥). absurd x) (λ (y : Among s us). y) h
inserted_holds s (term m t ts) us h =
    inserted_holds s ts (insert t us)
    (⊎_elim
    (λ (x : (s ≡ t) ⊎ Among s ts). ⊎_elim (λ (z : s ≡ t). inr (insert_holds s t us (inl z))) (λ (z : Among s ts). inl z) x)
    (λ (y : Among s us). inr (insert_holds s t us (inr y)))
    h)

-- nothing else is there
insert_only : (s t : Term) (us : Terms) → Among s (insert t us) → (s ≡ t) ⊎ Among s us
insert_only s t no_terms h = h
insert_only s t (term m u us) h = go (order u t) (insert_only s t us) h
  where
    go : (o : Ordering) → (Among s (insert t us) → (s ≡ t) ⊎ Among s us) → Among s (insert_by o (term m u (insert t us)) (term 0 t (term m u us)) (term m u us)) → (s ≡ t) ⊎ ((s ≡ u) ⊎ Among s us)
    go Less ih k = ⊎_elim (λ (z : s ≡ u). inr (inl z)) (λ (z : Among s (insert t us)). ⊎_elim (λ (x : s ≡ t). inl x) (λ (y : Among s us). inr (inr y)) (ih z)) k
    go Equal ih k = inr k
    go Greater ih k = k

inserted_only : (s : Term) (ts us : Terms) → Among s (inserted ts us) → Among s ts ⊎ Among s us
inserted_only s no_terms us h = inr h
inserted_only s (term m t ts) us h =
    ⊎_elim
    (λ (x : Among s ts). inl (inr x))
    (λ (y : Among s (insert t us)). ⊎_elim (λ (z : s ≡ t). inl (inl z)) (λ (z : Among s us). inr z) (insert_only s t us y))
    (inserted_only s ts (insert t us) h)

-- all that is stated of the orders
pub order_laws : OrderLaws
order_laws = record {
  names = total by_number names_lawful;
  uids = total by_uid uids_lawful;
  function_keys = total by_function_key function_keys_lawful;
  tag_keys = total by_tag_key tag_keys_lawful;
  uid_order = uid_order;
  types = types_total;
  terms = total order terms_lawful;
  ascends = λ ts. inserted_ascends ts no_terms tt;
  holds = λ t ts h. inserted_holds t ts no_terms (inl h);
  only = λ t ts h. ⊎_elim (λ (x : Among t ts). x) (λ (x : ⊥). absurd x) (inserted_only t ts no_terms h);
}
