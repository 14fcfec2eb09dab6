use Rattle.std.proofs.Common.{◌≡◌, ◌∙◌, ◌++◌, ap, codes, subst, sym}
use Rattle.std.specs.String.{string_bytes}
use Rattle.cedar_ids.specs.Escape.{escaped}
use Rattle.cedar_ids.specs.TextOf.{IsPrinted}
use Rattle.cedar_ids.specs.UidOf.{uid_parts}
use Rattle.cedar_ids.specs.Views.{type_name, eid_bytes}
use Rattle.cedar_lines.proofs.known_types.uid_of_escaped.Goals as goal

pub returns : goal.returns
returns c name is =
    let e = string_bytes c.args.eid in
    let parts : uid_parts c.from_components.result ≡ record { name = type_name c.args.ty; eid = e } =
    c.from_components.ensures ∙ (λ i. record {
      name = type_name c.args.ty;
      eid = ap eid_bytes c.new.ensures i;
    }) in
    subst (λ v. IsPrinted v (name ++ (codes "::\"" ++ (escaped e ++ codes "\"")))) (sym parts)
    (is.0, c.requires, λ i. is.1 i ++ (codes "::\"" ++ (escaped e ++ codes "\"")))
