use Rattle.std.proofs.Common.{◌≡◌, ◌++◌, take}
use Rattle.om_document.specs.Print.{text_of}
use Rattle.om_reply.specs.ExtensionTexts.{signature_lines}
use Rattle.om_reply.proofs.extension_text.push_signatures.Given as goal

abbrev pub invariant-loop-signature : goal.invariant-loop-signature
invariant-loop-signature l = l.text.items ≡ l.initial.text.items
    ++ text_of (signature_lines (take l.signature-index l.signatures))
