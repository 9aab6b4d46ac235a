-- What the reader refuses, as the answer has it: "4 to 9".
use Rattle.answers.specs.declared.Refusal.{Refusal}
use Rattle.reader.specs.declared.request.Refusal as given

abbrev pub unread_by : given.Refusal → Refusal
unread_by f = record { number = f.number; place = record { argument = f.place; link = f.link } }
