-- A consumer that loses its cookie, or is given one, holds the entries of before, and its search goes on.
use Rattle.std.proofs.Common.{◌≡◌, ℕ, Bool, true, false, cond, Option, Some, None, List, refl, ap, sym, ◌∙◌, inl, inr, subst}
use Rattle.std.specs.Prelude.{◌⊎◌, Err}
use Rattle.std.proofs.lemmas.Slice.Eq.{bytes_eq-Decides}
use Rattle.dn_names.specs.Names.{TypeAndValue}
use Rattle.entry_tree.specs.declared.entry.Entry.{Entry}
use Rattle.directory_writes.proofs.Promised.{IsPromised}
use Rattle.sync_provider.specs.Machine.{ProviderState}
use Rattle.sync_provider.proofs.Whereabouts.{place_with}
use Rattle.cascade_script.specs.declared.fault.Cause.TheVariants.{LaterCookie}
use Rattle.cascade_nodes.specs.declared.node.ConsumerNode.{ConsumerNode}
use Rattle.cascade_nodes.proofs.Fed.{IsAtRest}
use Rattle.cascade_exchange.proofs.Owns.{owns-still}
use Rattle.cascade_world.specs.Cookies.{held_cookie, is_later}
use Rattle.cascade_world.specs.Exchange.{Agreement, ExchangeOutcome, copy_of, with_text, holding, loses_cookie, sets_cookie}
use Rattle.cascade_laws.specs.Headline.{ReportedOpening, Known, known_after, session_over}
use Rattle.cascade_world.specs.ReportLines.{ReportLine as reported}
use Rattle.cascade_laws.proofs.Composing.{IsKeptIn, Keeps}
use Rattle.cascade_laws.proofs.Feeding.{IsSource, KeepsPromises, GoesOn, IsGoing, IsFed}
use Rattle.cascade_laws.proofs.Served.{given_promised}
use Rattle.cascade_laws.proofs.Sharing.{others-none}

abbrev Name : Type 0
Name = List (List TypeAndValue)

-- what was reported of the cookie, and what is held of it
pub own_cookie : (name : List ℕ) (known : Known) (cookie : Option (List ℕ)) → known_after name known (reported.Holds name cookie) ≡ record known { cookie = cookie }
own_cookie name known cookie = ap (λ same. cond same (record known { cookie = cookie }) known) ((bytes_eq-Decides name name).1 refl)

goes_with : (number : ℕ) (p : ProviderState) (f : ConsumerNode) (opening : ReportedOpening) (entries : List Entry) (cookie : Option (List ℕ)) → GoesOn number p f opening entries
    → GoesOn number p (with_text f cookie) opening entries
goes_with number p f opening entries cookie goes = record {
  session = goes.session;
  link = goes.link;
  search = goes.search;
  place = place_with (session_over number f.consumer.spec p.directory.writes opening) goes.session.start opening.writes goes.session.pieces goes.session.count entries f.consumer.copy goes.session.taken goes.session.ahead cookie goes.place;
}

fed_with : (number : ℕ) (p : ProviderState) (f : ConsumerNode) (known : Known) (cookie : Option (List ℕ)) → IsFed number p f known
    → IsPromised number f.consumer.spec p.directory.writes known.entries (held_cookie cookie)
    → IsFed number p (with_text f cookie) (record known { cookie = cookie })
fed_with number p f known cookie fed promised = record {
  held = fed.held;
  ascending = fed.ascending;
  cookie = refl;
  promised = promised;
  below = fed.below;
  state = by fed.state;
}
  where
    by : IsAtRest f ⊎ IsGoing number p f known → IsAtRest (with_text f cookie) ⊎ IsGoing number p (with_text f cookie) (record known { cookie = cookie })
    by (inl rest) = inl (record { search = rest.search; session = rest.session; link = rest.link })
    by (inr going) = inr (record { opening = going.opening; latest = going.latest; goes = goes_with number p f going.opening known.entries cookie going.goes })

holding_kept : (number : ℕ) (suffix : Name) (pair : Agreement) (known : Known) (cookie : Option (List ℕ)) → IsSource number suffix pair.provider
    → IsFed number pair.provider pair.consumer_node known → IsPromised number pair.consumer_node.consumer.spec pair.provider.directory.writes known.entries (held_cookie cookie)
    → KeepsPromises number pair.consumer_node.consumer.spec known (record known { cookie = cookie }) → IsKeptIn number suffix pair known (holding pair cookie)
holding_kept number suffix pair known cookie source fed promised elsewhere = record {
  source = source;
  fed =
      subst (IsFed number pair.provider (with_text pair.consumer_node cookie)) (sym (own_cookie pair.consumer_node.name known cookie))
      (fed_with number pair.provider pair.consumer_node known cookie fed promised);
  right = (tt, tt);
  same = refl;
  others = others-none pair.lineage number pair.provider pair.consumer_node (with_text pair.consumer_node cookie) refl;
  owns = owns-still pair.lineage pair.provider pair.consumer_node (with_text pair.consumer_node cookie) (λ at mine. mine);
  elsewhere = subst (KeepsPromises number pair.consumer_node.consumer.spec known) (sym (own_cookie pair.consumer_node.name known cookie)) elsewhere;
}

-- the loss of a cookie keeps what each part keeps
pub loses_cookie_keeps : (number : ℕ) (suffix : Name) → Keeps number suffix loses_cookie
loses_cookie_keeps number suffix pair known source fed room = holding_kept number suffix pair known None source fed tt (λ other writes least most far promised. tt)

-- so does a cookie that is given
pub sets_cookie_keeps : (text : List ℕ) (number : ℕ) (suffix : Name) → Keeps number suffix (sets_cookie text)
sets_cookie_keeps text number suffix pair known source fed room = by (is_later (copy_of pair.consumer_node).cookie text) refl
  where
    refused : ExchangeOutcome
    refused = Err (LaterCookie (copy_of pair.consumer_node).cookie text)

    by : (later : Bool) → is_later (copy_of pair.consumer_node).cookie text ≡ later → IsKeptIn number suffix pair known (cond later refused (holding pair (Some text)))
    by true is = tt
    by false is =
        holding_kept number suffix pair known (Some text) source fed
        (given_promised number source.first source.small pair.consumer_node.consumer.spec pair.provider.directory.writes known.entries
        (held_cookie (copy_of pair.consumer_node).cookie) (held_cookie (Some text)) fed.promised is)
        (λ other writes least most far promised.
        given_promised other least most pair.consumer_node.consumer.spec writes known.entries (held_cookie known.cookie) (held_cookie (Some text)) promised
        (ap (λ held. is_later held text) (sym fed.cookie) ∙ is))
