-- The lines about a journal, byte for byte.
use Rattle.std.proofs.Common.{◌≡◌, ℕ, [], ◌∷◌, ◌++◌, codes, rules, sym, ap, ap₂, ◌∙◌, append_assoc}
use Rattle.std.specs.Fmt.{decimal}
use Rattle.json.specs.Print.{escape_byte}
use Rattle.mx_json.specs.Canonical.{canonical}
use Rattle.mx_json.specs.declared.value.Json.{Text, the_lemmas}
use Rattle.mx_json.proofs.CanonicalLemmas.{object-written}
use Rattle.mx_lines.specs.Replies.{reply_text, number_of}
use Rattle.push_server.specs.JournalLines.{tally_value, fault_value, tally_line, fault_line}

canonical-number : (n : ℕ) → canonical (number_of n) ≡ decimal n
canonical-number n = search (rules, the_lemmas)

canonical-name : canonical (Text (codes "NotAJournal")) ≡ codes "\"NotAJournal\""
unfolding escape_byte
canonical-name = search (rules, the_lemmas)

canonical-tally : (entries inputs : ℕ) → canonical (tally_value entries inputs)
    ≡ codes "{\"entries\":" ++ (decimal entries ++ (codes ",\"inputs\":" ++ (decimal inputs ++ codes "}")))
unfolding escape_byte
canonical-tally entries inputs =
    object-written (codes "entries", number_of entries) ((codes "inputs", number_of inputs) ∷ [])
    ∙ ap₂ (λ one two. codes "{\"entries\":" ++ (one ++ (codes ",\"inputs\":" ++ (two ++ codes "}"))))
    (canonical-number entries) (canonical-number inputs)

canonical-fault : (offset : ℕ) → canonical (fault_value offset)
    ≡ codes "{\"error\":\"NotAJournal\",\"offset\":" ++ (decimal offset ++ codes "}")
unfolding escape_byte
canonical-fault offset =
    object-written (codes "error", Text (codes "NotAJournal")) ((codes "offset", number_of offset) ∷ [])
    ∙ ap₂ (λ one two. codes "{\"error\":" ++ (one ++ (codes ",\"offset\":" ++ (two ++ codes "}"))))
    canonical-name (canonical-number offset)

pub tally-written : (entries inputs : ℕ)
    → codes "= {\"entries\":" ++ (decimal entries ++ (codes ",\"inputs\":" ++ (decimal inputs ++ codes "}\n")))
    ≡ tally_line entries inputs
unfolding reply_text
tally-written entries inputs =
    let one = decimal entries in
    let two = decimal inputs in
    ap (λ text. codes "= {\"entries\":" ++ text)
    (sym (append_assoc one (codes ",\"inputs\":" ++ (two ++ codes "}")) (codes "\n")
    ∙ ap (λ text. one ++ (codes ",\"inputs\":" ++ text)) (append_assoc two (codes "}") (codes "\n"))))
    ∙ ap (λ text. codes "= " ++ (text ++ codes "\n")) (sym (canonical-tally entries inputs))

pub fault-written : (offset : ℕ)
    → codes "= {\"error\":\"NotAJournal\",\"offset\":" ++ (decimal offset ++ codes "}\n") ≡ fault_line offset
unfolding reply_text
fault-written offset =
    ap (λ text. codes "= {\"error\":\"NotAJournal\",\"offset\":" ++ text)
    (sym (append_assoc (decimal offset) (codes "}") (codes "\n")))
    ∙ ap (λ text. codes "= " ++ (text ++ codes "\n")) (sym (canonical-fault offset))
