-- The output for a line that asks for help.
use Rattle.std.specs.Prelude.{◌≡◌, ◌≢◌, ◌⊎◌, ℕ, List, ◌++◌, codes}
use Rattle.cedar_repl.specs.declared.help.TheConstants.{FIELD_HELP, POLICY_HELP, STORE_HELP}

-- Holds if the text is the help on the topic of the line.
abbrev pub IsHelpOn : List ℕ → List ℕ → Type 0
IsHelpOn line text =
    ((line ≡ codes "help store") × (text ≡ STORE_HELP.now))
    ⊎ (((line ≡ codes "help policies") × (text ≡ POLICY_HELP.now))
    ⊎ ((line ≡ codes "help fields") × (text ≡ FIELD_HELP.now)))

-- Holds if the line does not name a help topic.
abbrev pub IsNoTopic : List ℕ → Type 0
IsNoTopic line = (line ≢ codes "help store") × (line ≢ codes "help policies") × (line ≢ codes "help fields")

-- The whole help text.
abbrev pub full_help : List ℕ
full_help = STORE_HELP.now ++ (POLICY_HELP.now ++ FIELD_HELP.now)
