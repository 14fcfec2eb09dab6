use Rattle.std.proofs.Common.{◌≡◌, ◌++◌, ◌∙◌, ap, append_assoc, List, ℕ}
use Rattle.cedar_repl.specs.declared.help.TheConstants.{FIELD_HELP, POLICY_HELP, STORE_HELP}
use Rattle.cedar_repl.proofs.conversation.push_help.Goals as goal

pub returns : goal.returns
returns c =
    let old = c.args.out.now.items in
    let one : c.extend_from_slice.new.self.items ≡ old ++ STORE_HELP.now =
    c.in_ok-extend_from_slice.ensures.items ∙ ap (λ (v : List ℕ). old ++ v) (c.as_bytes.ensures.value
    ∙ c.help_texts.ensures.store) in
    let two : c.extend_from_slice-2.new.self.items ≡ (old ++ STORE_HELP.now) ++ POLICY_HELP.now =
    c.in_ok-extend_from_slice-2.ensures.items ∙ (λ i. one i ++ (c.as_bytes-2.ensures.value
    ∙ c.help_texts.ensures.policies) i) in
    c.in_ok-extend_from_slice-3.ensures.items ∙ (λ i. two i ++ (c.as_bytes-3.ensures.value
    ∙ c.help_texts.ensures.fields) i)
    ∙ append_assoc (old ++ STORE_HELP.now) POLICY_HELP.now FIELD_HELP.now
    ∙ append_assoc old STORE_HELP.now (POLICY_HELP.now ++ FIELD_HELP.now)
