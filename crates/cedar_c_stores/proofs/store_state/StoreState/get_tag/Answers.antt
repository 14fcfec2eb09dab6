use Rattle.std.proofs.Common.{ap, sym, ◌∙◌, List, ℕ}
use Rattle.cedar_entity.specs.Fields.{field_at}
use Rattle.cedar_c_stores.specs.Reads.{tags_of}
use Rattle.cedar_c_stores.proofs.Showing.{gets}
use Rattle.cedar_c_stores.proofs.store_state.StoreState.get_tag.Goals as goal

pub returns : goal.returns
returns g c =
    gets tags_of c.args.text.now c.args.key.now c.args.self.now c.store_encoded.new.self c.in-Some.entity.now _
    c.in_ok-found-in-Some.found c.store_encoded.result
    (c.in_ok-uid.uid, c.in_ok-uid.ensures, sym c.in-Some.ensures.value)
    c.in_ok-key.ensures.0 (c.get_tag.ensures ∙ ap (λ (k : List ℕ). field_at k c.in-Some.entity.now.tags) c.in_ok-key.ensures.1) c.in_ok-found-in-Some.ensures c.store_encoded.ensures
