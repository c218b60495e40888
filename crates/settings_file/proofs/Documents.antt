-- The document that octets are.
use Rattle.std.proofs.Common.{◌≡◌, List, ℕ, Some, None, inl, inr}
use Rattle.std.proofs.lemmas.Bool.{cases_Bool}
use Rattle.std.proofs.lemmas.Str.{IsUtf8-from_is_utf8, is_utf8-from_IsUtf8}
use Rattle.std.specs.Str.{IsUtf8, is_utf8}
use Rattle.toml.specs.Data.{Members}
use Rattle.toml.specs.Parse.{parse_document}
use Rattle.settings_file.specs.Document.{document_of}

pub document-read : (octets : List ℕ) (document : Members) → IsUtf8 octets → parse_document octets ≡ Some document
    → document_of octets ≡ Some document
unfolding document_of
document-read octets document text parsed = rw (is_utf8-from_IsUtf8 octets text) parsed

pub document-refused : (octets : List ℕ) → (IsUtf8 octets → parse_document octets ≡ None) → document_of octets ≡ None
unfolding document_of
document-refused octets refused =
    elim (cases_Bool (is_utf8 octets)) [
      | inl text ↦ rw text (refused (IsUtf8-from_is_utf8 octets text))
      | inr other ↦ rw other
    ]
