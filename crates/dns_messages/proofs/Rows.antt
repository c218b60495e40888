-- Worked messages, computed.
use Rattle.std.proofs.Common.{◌≡◌, ℕ, List, [], ◌∷◌, Some, None, refl, length}
use Rattle.dns_names.specs.Names.{piece_at}
use Rattle.dns_names.specs.Walk.{name_at}
use Rattle.dns_messages.specs.declared.message.Content.TheVariants.{Address, One, Octets}
use Rattle.dns_names.specs.Spelling.{spell}
use Rattle.dns_messages.specs.Writing.{spelling}
use Rattle.dns_messages.specs.Reading.{message_at, questions_at, question_at, resources_at, resource_at, content_by}

abbrev ftp : List (List ℕ)
ftp = (102 ∷ 116 ∷ 112 ∷ []) ∷ (101 ∷ 120 ∷ 97 ∷ 109 ∷ 112 ∷ 108 ∷ 101 ∷ []) ∷ []

abbrev answer : List ℕ
answer = 0 ∷ 1 ∷ 129 ∷ 128 ∷ 0 ∷ 1 ∷ 0 ∷ 2 ∷ 0 ∷ 0 ∷ 0 ∷ 1 ∷ 3 ∷ 102 ∷ 116 ∷ 112 ∷ 7 ∷ 101 ∷ 120 ∷ 97 ∷ 109 ∷ 112 ∷ 108 ∷ 101 ∷ 0 ∷ 0 ∷ 1 ∷ 0 ∷ 1
    ∷ 192 ∷ 12 ∷ 0 ∷ 1 ∷ 0 ∷ 1 ∷ 0 ∷ 0 ∷ 14 ∷ 16 ∷ 0 ∷ 4 ∷ 10 ∷ 0 ∷ 0 ∷ 5 ∷ 192 ∷ 12 ∷ 0 ∷ 1 ∷ 0 ∷ 1 ∷ 0 ∷ 0 ∷ 14 ∷ 16 ∷ 0 ∷ 4 ∷ 10 ∷ 0 ∷ 0 ∷ 8 ∷ 0
    ∷ 0 ∷ 41 ∷ 4 ∷ 208 ∷ 0 ∷ 0 ∷ 128 ∷ 0 ∷ 0 ∷ 0 ∷ []

read_answer : message_at answer
    ≡ Some (record {
      id = 1;
      flags = 33152;
      question = Some (record { name = ftp; kind = 1; class = 1 });
      answers = record { name = ftp; kind = 1; class = 1; lifetime = 3600; content = Address (record { 0 = 167772165 }) }
          ∷ record { name = ftp; kind = 1; class = 1; lifetime = 3600; content = Address (record { 0 = 167772168 }) } ∷ [];
      authority = [];
      additional =
          record { name = []; kind = 41; class = 1232; lifetime = 32768; content = Octets [] } ∷ [];
    })
unfolding message_at questions_at question_at resources_at resource_at content_by name_at piece_at
read_answer = refl

-- a name that points to itself
to_itself : message_at (0 ∷ 1 ∷ 1 ∷ 0 ∷ 0 ∷ 1 ∷ 0 ∷ 0 ∷ 0 ∷ 0 ∷ 0 ∷ 0 ∷ 192 ∷ 12 ∷ 0 ∷ 1 ∷ 0 ∷ 1 ∷ []) ≡ None
unfolding message_at questions_at question_at resources_at resource_at content_by name_at piece_at
to_itself = refl

-- two questions
two_questions : message_at (0 ∷ 1 ∷ 1 ∷ 0 ∷ 0 ∷ 2 ∷ 0 ∷ 0 ∷ 0 ∷ 0 ∷ 0 ∷ 0 ∷ 0 ∷ 0 ∷ 1 ∷ 0 ∷ 1 ∷ 0 ∷ 0 ∷ 1 ∷ 0 ∷ 1 ∷ []) ≡ None
unfolding message_at questions_at question_at resources_at resource_at content_by name_at piece_at
two_questions = refl

-- the answer with other addresses, written anew
written_answer : spelling
    (record {
      id = 1;
      flags = 33152;
      question = Some (record { name = ftp; kind = 1; class = 1 });
      answers = record { name = ftp; kind = 1; class = 1; lifetime = 0; content = Address (record { 0 = 3232286721 }) }
          ∷ record { name = ftp; kind = 1; class = 1; lifetime = 0; content = Address (record { 0 = 3232286722 }) } ∷ [];
      authority = [];
      additional =
          record { name = []; kind = 41; class = 1232; lifetime = 32768; content = Octets [] } ∷ [];
    })
    ≡ 0 ∷ 1 ∷ 129 ∷ 128 ∷ 0 ∷ 1 ∷ 0 ∷ 2 ∷ 0 ∷ 0 ∷ 0 ∷ 1 ∷ 3 ∷ 102 ∷ 116 ∷ 112 ∷ 7 ∷ 101 ∷ 120 ∷ 97 ∷ 109 ∷ 112 ∷ 108 ∷ 101 ∷ 0 ∷ 0 ∷ 1 ∷ 0 ∷ 1 ∷ 192
    ∷ 12 ∷ 0 ∷ 1 ∷ 0 ∷ 1 ∷ 0 ∷ 0 ∷ 0 ∷ 0 ∷ 0 ∷ 4 ∷ 192 ∷ 168 ∷ 200 ∷ 1 ∷ 192 ∷ 12 ∷ 0 ∷ 1 ∷ 0 ∷ 1 ∷ 0 ∷ 0 ∷ 0 ∷ 0 ∷ 0 ∷ 4 ∷ 192 ∷ 168 ∷ 200 ∷ 2 ∷ 0
    ∷ 0 ∷ 41 ∷ 4 ∷ 208 ∷ 0 ∷ 0 ∷ 128 ∷ 0 ∷ 0 ∷ 0 ∷ []
unfolding spelling spell
written_answer = refl

abbrev reverse : List (List ℕ)
reverse = (53 ∷ []) ∷ (48 ∷ []) ∷ (48 ∷ []) ∷ (49 ∷ 48 ∷ []) ∷ (105 ∷ 110 ∷ 45 ∷ 97 ∷ 100 ∷ 100 ∷ 114 ∷ []) ∷ (97 ∷ 114 ∷ 112 ∷ 97 ∷ []) ∷ []

-- a question for a reverse name has 39 octets, and its answer with a name 69
asked : length (spelling
    (record {
      id = 1;
      flags = 256;
      question = Some (record { name = reverse; kind = 12; class = 1 });
      answers = [];
      authority = [];
      additional = [];
    })) ≡ 39
unfolding spelling spell
asked = refl

answered : length (spelling
    (record {
      id = 1;
      flags = 33152;
      question = Some (record {
        name = (53 ∷ []) ∷ (48 ∷ []) ∷ (48 ∷ []) ∷ (49 ∷ 48 ∷ []) ∷ (105 ∷ 110 ∷ 45 ∷ 97 ∷ 100 ∷ 100 ∷ 114 ∷ [])
            ∷ (97 ∷ 114 ∷ 112 ∷ 97 ∷ []) ∷ [];
        kind = 12;
        class = 1;
      });
      answers = record { name = reverse; kind = 12; class = 1; lifetime = 0; content = One ftp } ∷ [];
      authority = [];
      additional = [];
    })) ≡ 64
unfolding spelling spell
answered = refl
