-- Texts of the worked examples (docs/FORMATS.md, "Answers").
use Rattle.std.specs.Prelude.{ℕ, List, ◌++◌, codes}

-- The end of the story of examples/story.lines: a circuit is asked for, a cable breaks, and a right is lost.
abbrev pub story_requests : List ℕ
story_requests =
    codes "# A circuit is asked for, and a cable breaks: the circuit goes on over the other way.\n"
    ++ (codes "100 CreateCircuit {\"identity\":\"ann\",\"service\":\"web\"}\n"
    ++ (codes "ReportState {\"link\":\"l1\",\"router\":\"r1\",\"up\":false}\n"
    ++ (codes "ShowCircuit {\"no\":1}\n\n"
    ++ (codes "UpdateIdentity {\"attributes\":[],\"name\":\"ann\"}\n"
    ++ codes "ShowCircuit {\"no\":1}\n"))))

-- Its replies, of examples/story.replies.
abbrev pub story_replies : List ℕ
story_replies =
    codes "100 ok {\"circuit\":1,\"ingress\":\"r1\",\"links\":[1],\"terminator\":1,\"total\":21}\n"
    ++ (codes "101 ok {}\n"
    ++ (codes "102 ok {\"identity\":\"ann\",\"ingress\":\"r1\",\"links\":[2,3],\"service\":\"web\",\"terminator\":1}\n"
    ++ (codes "103 ok {}\n"
    ++ codes "104 refused {\"code\":21,\"field\":\"no\",\"name\":\"Unknown\"}\n")))

-- Both, a line each.
abbrev pub story_answers : List ℕ
story_answers =
    codes "2 CreateCircuit {\"identity\":\"ann\",\"service\":\"web\"} -> ok {\"circuit\":1,\"ingress\":\"r1\",\"links\":[1],\"terminator\":1,\"total\":21}\n"
    ++ (codes "3 ReportState {\"link\":\"l1\",\"router\":\"r1\",\"up\":false} -> ok {}\n"
    ++ (codes "4 ShowCircuit {\"no\":1} -> ok {\"identity\":\"ann\",\"ingress\":\"r1\",\"links\":[2,3],\"service\":\"web\",\"terminator\":1}\n"
    ++ (codes "6 UpdateIdentity {\"attributes\":[],\"name\":\"ann\"} -> ok {}\n"
    ++ codes "7 ShowCircuit {\"no\":1} -> refused {\"code\":21,\"field\":\"no\",\"name\":\"Unknown\"}\n")))

-- Four requests, two of them with one number; and five replies in another order, of which one is to none of them, and none is to the last.
abbrev pub mixed_text : List ℕ
mixed_text = codes "7 Hello a\n7 Hello b\nHello\nHello c\n---\n# replies\n8 ok\n7 refused {}\n\n99 ok x\n7 ok {\"no\":1}\n7 ok\n"

-- What is told of them.
abbrev pub mixed_answers : List ℕ
mixed_answers =
    codes "1 Hello a -> refused {}\n2 Hello b -> ok {\"no\":1}\n3 Hello -> ok\n4 Hello c -> unanswered\n"
    ++ codes "no request -> 99 ok x\nno request -> 7 ok\n"
